use Rattle.std.proofs.Common.{◌≡◌, ℕ, ℤ, ◌+◌, ◌*◌, ◌<◌, List, [], ◌∷◌, ◌++◌, length, map, take, Some, sym, ap, ◌∙◌, arith}
use Rattle.std.proofs.lemmas.List.{append-nil, flat_map_more, map_more, take_all}
use Rattle.std.specs.List.{flat_map}
use Rattle.be_bytes.specs.Fields.{fields_bytes}
use Rattle.be_bytes.specs.declared.field.Field.{Field}
use Rattle.plain_tables.specs.GlyphMeasures.{glyphs_of}
use Rattle.plain_tables.specs.HorizontalMetrics.{metric_bytes, metric_of, metrics_in}
use Rattle.plain_tables.specs.declared.glyphs.Glyph.{Glyph}
use Rattle.plain_tables.proofs.GlyphLemmas.{glyphs_count}
use Rattle.plain_tables.proofs.MetricReading.{hmtx_back, hmtx_size}
use Rattle.plain_tables.proofs.horizontal.hmtx.Goals as goal

pub loop-index-init : goal.loop-index-init
loop-index-init c = sym (append-nil c.new-bytes.result.items)

pub loop-index-preserved : goal.loop-index-preserved
loop-index-preserved c =
    let glyphs : List Glyph = glyphs_of c.args.facts.now in
    let i : ℕ = c.loop-index.index in
    let own : Glyph = c.glyph_at.result in
    let done : List (ℕ × ℤ) = map metric_of (take i glyphs) in
    let within : i < length glyphs = omega (arith, glyphs_count c.args.facts.now c.requires) in
    let more : map metric_of (take (i + 1) glyphs) ≡ done ++ metric_of own ∷ [] =
    map_more metric_of glyphs i own within ∙ ap (λ (g : Glyph). done ++ metric_of g ∷ []) (sym c.glyph_at.ensures.here) in
    c.in_ok-put_fields.ensures
    ∙ ap (λ (fields : List Field). c.loop-index.bytes.items ++ fields_bytes fields) c.metric.ensures
    ∙ ap (λ (bytes : List ℕ). bytes ++ metric_bytes (metric_of own)) c.loop-index.invariant
    ∙ flat_map_more metric_bytes c.new-bytes.result.items done (metric_of own)
    ∙ ap (λ (metrics : List (ℕ × ℤ)). c.new-bytes.result.items ++ flat_map metric_bytes metrics) (sym more)

pub returns-clause-written : goal.returns-clause-written
returns-clause-written c =
    let glyphs : List Glyph = glyphs_of c.args.facts.now in
    let i : ℕ = c.loop-index.index in
    c.loop-index.invariant
    ∙ ap (λ (bytes : List ℕ). bytes ++ flat_map metric_bytes (map metric_of (take i glyphs))) c.new-bytes.ensures.items
    ∙ ap (λ (gs : List Glyph). flat_map metric_bytes (map metric_of gs)) (take_all i glyphs (omega (arith, glyphs_count c.args.facts.now c.requires)))

pub returns-clause-means : goal.returns-clause-means
returns-clause-means c =
    let n : ℕ = length c.args.facts.now.names in
    ap (metrics_in n n) (returns-clause-written c) ∙ hmtx_back c.args.facts.now c.requires

pub returns-clause-size : goal.returns-clause-size
returns-clause-size c = ap (λ (bytes : List ℕ). length bytes) (returns-clause-written c) ∙ hmtx_size c.args.facts.now c.requires
