use Rattle.std.proofs.Common.{◌≡◌, ◌+◌, ◌*◌, ◌++◌, ℕ, List, ◌∷◌, drop, All, sym, ap, subst, refl, ◌∙◌, arith}
use Rattle.std.proofs.lemmas.List.{take_all, drop_more}
use Rattle.std.proofs.lemmas.List.Elements.{All-more}
use Rattle.std.specs.Str.{IsUtf8}
use Rattle.be_bytes.specs.Fields.{fields_bytes}
use Rattle.font_text.specs.Utf16.{utf16_length}
use Rattle.cmap_name.specs.Steps.{IsName}
use Rattle.cmap_name.proofs.NameReading.{one_record_more, room_left}
use Rattle.cmap_name.proofs.names.put_records.Goals as goal

pub loop-id-preserved : goal.loop-id-preserved
loop-id-preserved c =
    let i : ℕ = c.loop-id.id-index in
    let own : ℕ × List ℕ = c.loop-id-item.result in
    let names : List (ℕ × List ℕ) = c.args.names.now in
    let left : drop i names ≡ own ∷ drop (i + 1) names = drop_more names i own c.loop-id-test.true ∙ ap (λ (x : ℕ × List ℕ). x ∷ drop (i + 1) names) (sym c.loop-id-item.is) in
    let units : c.utf16_length.result ≡ utf16_length own.1 = c.utf16_length.ensures.value ∙ ap utf16_length c.as_str.ensures in
    record {
      written =
          one_record_more c.loop-id.out.items c.put_fields.new.out.items _ c.loop-id.offset (c.loop-id.offset + 2 * c.utf16_length.result) (2 * c.utf16_length.result) own (drop i names) (drop (i + 1) names) left
          (c.in_ok-put_fields.ensures ∙ ap (λ f. c.loop-id.out.items ++ fields_bytes f) c.record.ensures.value)
          (ap (λ n. 2 * n) units) refl c.loop-id.invariant.written;
      small = omega (arith, room_left own (drop i names) (drop (i + 1) names) left, c.loop-id.invariant.small, units);
      fit = All-more IsName names i own c.loop-id-test.true c.loop-id.invariant.fit (subst IsName c.loop-id-item.is (record { id = c.record.ensures.fits; text = subst IsUtf8 c.as_str.ensures c.as_str.utf8 }));
    }

pub returns-clause-fit : goal.returns-clause-fit
returns-clause-fit c = subst (All IsName) (take_all c.loop-id.id-index c.args.names.now c.loop-id-test.false) c.loop-id.invariant.fit
