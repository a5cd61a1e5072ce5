use Rattle.std.proofs.Common.{◌≡◌, ℕ, ◌+◌, ◌++◌, ◌∷◌, [], length, List, ap, ◌∙◌, append_assoc, arith}
use Rattle.std.proofs.lemmas.List.{append-nil}
use Rattle.be_bytes.specs.Fields.{fields_bytes}
use Rattle.be_bytes.specs.declared.field.Field.TheVariants.{Uint16}
use Rattle.cmap_name.specs.CharacterLayout.{encoding_bytes}
use Rattle.cmap_name.specs.Characters.{EncodingRecord}
use Rattle.cmap_name.proofs.FormatFour.{basic_size}
use Rattle.cmap_name.proofs.characters.both.Goals as goal

-- parts that are appended one after another
joined : (b0 b1 b2 b3 b4 b5 h r1 r2 own twelve : List ℕ) → b0 ≡ [] → b1 ≡ b0 ++ h → b2 ≡ b1 ++ r1 → b3 ≡ b2 ++ r2 → b4 ≡ b3 ++ own → b5 ≡ b4 ++ twelve
    → b5 ≡ h ++ ((r1 ++ (r2 ++ [])) ++ (own ++ (twelve ++ [])))
joined b0 b1 b2 b3 b4 b5 h r1 r2 own twelve e0 e1 e2 e3 e4 e5 =
    let all : b5 ≡ ((((([] ++ h) ++ r1) ++ r2) ++ own) ++ twelve) = cc in
    all ∙ simp (append_assoc, append-nil)

pub returns : goal.returns
returns c =
    let four = c.in_ok-put_format_4.ensures in
    let size = basic_size c.args.basic.now four.own four.holds in
    let at : ℕ → ℕ → EncodingRecord = λ encoding offset. record { platform = 3; encoding = encoding; offset = offset } in
    let place : 20 + c.format_4_size.result ≡ 20 + length four.own = omega (arith, size, c.format_4_size.ensures) in
    record {
      own = four.own;
      holds = four.holds;
      bytes_are =
          joined c.new-bytes.result.items c.put_fields.new.out.items c.put_fields-2.new.out.items c.put_fields-3.new.out.items c.put_format_4.new.out.items c.put_format_12.new.out.items
          (fields_bytes (Uint16 0 ∷ Uint16 2 ∷ [])) (encoding_bytes (at 1 20)) (encoding_bytes (at 10 (20 + length four.own))) four.own _
          c.new-bytes.ensures.items
          (c.in_ok-put_fields.ensures ∙ ap (λ f. c.new-bytes.result.items ++ fields_bytes f) c.header.ensures)
          (c.in_ok-put_fields-2.ensures ∙ ap (λ f. c.put_fields.new.out.items ++ fields_bytes f) c.record.ensures)
          (c.in_ok-put_fields-3.ensures ∙ ap (λ f. c.put_fields-2.new.out.items ++ fields_bytes f) c.record-2.ensures ∙ ap (λ n. c.put_fields-2.new.out.items ++ encoding_bytes (at 10 n)) place)
          four.new_are
          c.in_ok-put_format_12.ensures;
    }
