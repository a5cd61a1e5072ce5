-- What the file has of the tables of fixed fields.
use Rattle.std.proofs.Common.{◌≡◌, ◌≢◌, ℕ, pos, ◌+◌, ◌≤◌, Bool, List, drop, Option, Some, refl, sym, ap, subst, ◌∙◌, arith}
use Rattle.std.proofs.lemmas.List.Elements.{All-from_recursion}
use Rattle.std.specs.Prelude.{if◌then◌else◌, is_some}
use Rattle.std.specs.Int.{w32, cast_signed}
use Rattle.basics.specs.Optional.{◌>>=◌}
use Rattle.be_bytes.specs.Reading.{uint16, uint32}
use Rattle.be_bytes.specs.declared.field.Field.{Field}
use Rattle.be_bytes.specs.declared.field.Field.TheVariants.{Int16, Int64, Uint8, Uint16, Uint32}
use Rattle.cmap_name.specs.Characters.{glyph_of_character}
use Rattle.font_build.proofs.DesignLemmas.{has_names}
use Rattle.font_build.proofs.FileLemmas.{InFile, uint16_by, uint32_by}
use Rattle.font_build.proofs.SubstitutionLemmas.{gsub_there}
use Rattle.font_build.specs.Characters.{HasCharacters}
use Rattle.font_build.specs.FontReading.{tags_in}
use Rattle.font_build.specs.FontTags.{font_tags}
use Rattle.font_build.specs.PlainFields.{ADJUSTMENT, AreReadBut, HasFields, TellsFacts}
use Rattle.font_build.specs.TableSteps.{AreFixed, AreTablesOf}
use Rattle.font_build.specs.declared.tables.Tables.{Tables}
use Rattle.font_model.specs.declared.parts.Project.{Project}
use Rattle.font_tables.specs.FontFacts.{facts_of}
use Rattle.glyf_loca.specs.declared.extent.Bounds.{Bounds}
use Rattle.plain_tables.specs.FixedFields.{AreRead, IsRead, word}
use Rattle.plain_tables.specs.FontHeader.{head_fields, head_of}
use Rattle.plain_tables.specs.GlyphMeasures.{extent_of, glyphs_of}
use Rattle.plain_tables.specs.declared.facts.Facts.{Facts}
use Rattle.sfnt_write.specs.FontFile.{IsFontFile}
use Rattle.sfnt_write.specs.Holds.{IsHeadWith}

-- two bytes before the adjustment, and four
short_before : (n offset : ℕ) (head bytes : List ℕ) → IsHeadWith n head bytes → offset + 2 ≤ 8 → uint16 (drop offset bytes) ≡ uint16 (drop offset head)
short_before n offset head bytes own before =
    uint16_by (drop offset bytes) ∙ ap (λ (part : Option (List ℕ)). part >>= uint16) (own.before offset 2 before) ∙ sym (uint16_by (drop offset head))

long_before : (n offset : ℕ) (head bytes : List ℕ) → IsHeadWith n head bytes → offset + 4 ≤ 8 → uint32 (drop offset bytes) ≡ uint32 (drop offset head)
long_before n offset head bytes own before =
    uint32_by (drop offset bytes) ∙ ap (λ (part : Option (List ℕ)). part >>= uint32) (own.before offset 4 before) ∙ sym (uint32_by (drop offset head))

abbrev ReadBut : List ℕ → ℕ × Field → Type 0
ReadBut bytes own = own.0 ≢ ADJUSTMENT → IsRead own.1 (drop own.0 bytes)

-- a field after the adjustment
field_after : (n : ℕ) (head bytes : List ℕ) (offset : ℕ) (field : Field) → IsHeadWith n head bytes → 12 ≤ offset → IsRead field (drop offset head) → IsRead field (drop offset bytes)
field_after n head bytes offset field own far read = subst (IsRead field) (sym (own.after offset far)) read

pub head_read : (n : ℕ) (facts : Facts) (head bytes : List ℕ) → IsHeadWith n head bytes → AreRead (head_of facts) head → AreReadBut ADJUSTMENT (head_of facts) bytes
unfolding head_fields
head_read n facts head bytes own are =
    let no : ℕ × Field = (0, Uint8 0) in
    let bounds : Bounds = (extent_of (glyphs_of facts)).bounds in
    let after = field_after n head bytes in
    All-from_recursion (ReadBut bytes) (head_of facts) (
      (λ _. short_before n 0 head bytes own (omega arith) ∙ are 0 no (omega arith)),
      (
        (λ _. short_before n 2 head bytes own (omega arith) ∙ are 1 no (omega arith)),
        (
          (λ _. ap (λ (read : Option ℕ). read >>= λ k. Some (cast_signed w32 k)) (long_before n 4 head bytes own (omega arith)) ∙ are 2 no (omega arith)),
          (
            (λ other. absurd (other refl)),
            (
              (λ _. after 12 (Uint32 0x5F0F_3CF5) own (omega arith) (are 4 no (omega arith))),
              (
                (λ _. after 16 (Uint16 3) own (omega arith) (are 5 no (omega arith))),
                (
                  (λ _. after 18 (word facts.info.units) own (omega arith) (are 6 no (omega arith))),
                  (
                    (λ _. after 20 (Int64 (pos 0)) own (omega arith) (are 7 no (omega arith))),
                    (
                      (λ _. after 28 (Int64 (pos 0)) own (omega arith) (are 8 no (omega arith))),
                      (
                        (λ _. after 36 (Int16 bounds.x_min) own (omega arith) (are 9 no (omega arith))),
                        (
                          (λ _. after 38 (Int16 bounds.y_min) own (omega arith) (are 10 no (omega arith))),
                          (
                            (λ _. after 40 (Int16 bounds.x_max) own (omega arith) (are 11 no (omega arith))),
                            (
                              (λ _. after 42 (Int16 bounds.y_max) own (omega arith) (are 12 no (omega arith))),
                              (
                                (λ _. after 44 (Uint16 0) own (omega arith) (are 13 no (omega arith))),
                                (
                                  (λ _. after 46 (Uint16 6) own (omega arith) (are 14 no (omega arith))),
                                  (
                                    (λ _. after 48 (Int16 (pos 2)) own (omega arith) (are 15 no (omega arith))),
                                    (
                                      (λ _. after 50 (Int16 (if facts.long then pos 1 else pos 0)) own (omega arith) (are 16 no (omega arith))),
                                      (
                                        (λ _. after 52 (Int16 (pos 0)) own (omega arith) (are 17 no (omega arith))),
                                        tt,
                                      ),
                                    ),
                                  ),
                                ),
                              ),
                            ),
                          ),
                        ),
                      ),
                    ),
                  ),
                ),
              ),
            ),
          ),
        ),
      ),
    )

pub tells_facts : (facts : Facts) (tables : Tables) (file : List ℕ) → AreFixed facts tables.fixed → InFile tables file → TellsFacts facts file
tells_facts facts tables file are own = record {
  head = record { bytes = own.head.bytes; there = own.head.there; meant = head_read own.adjustment facts tables.fixed.head.items own.head.bytes own.head.meant are.head };
  hhea = record { bytes = tables.fixed.hhea.items; there = own.hhea; meant = are.hhea };
  hmtx = record { bytes = tables.fixed.hmtx.items; there = own.hmtx; meant = are.hmtx };
  maxp = record { bytes = tables.fixed.maxp.items; there = own.maxp; meant = are.maxp };
  os2 = record { bytes = tables.fixed.os2.items; there = own.os2; meant = are.os2 };
  post = record { bytes = tables.fixed.post.items; there = own.post; meant = are.post };
  glyph_names = record { bytes = tables.fixed.post.items; there = own.post; meant = are.names };
}

-- ---- all

pub has_characters : (project : Project) (tables : Tables) (file : List ℕ) → AreTablesOf project tables → InFile tables file → HasCharacters project file
has_characters project tables file are own = record {
  glyphs = λ c. ap (λ (table : Option (List ℕ)). table >>= λ cmap. glyph_of_character cmap c) own.cmap ∙ are.characters c;
  agree = record { bytes = tables.cmap.items; there = own.cmap; meant = are.agree };
}

pub has_fields : (project : Project) (tables : Tables) (file : List ℕ) → AreTablesOf project tables → InFile tables file → IsFontFile file → tags_in file ≡ Some (font_tags (is_some tables.gsub)) → HasFields project file
has_fields project tables file are own is_font tags = record {
  is_font = is_font;
  tags = tags ∙ ap (λ (there : Bool). Some (font_tags there)) (gsub_there project.design.last project.cells project.subs tables.gsub are.substitutions);
  facts = tells_facts (facts_of project) tables file are.fixed own;
  names = has_names project tables file are.design own;
}
