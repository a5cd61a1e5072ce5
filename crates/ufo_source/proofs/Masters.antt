-- What holds of a source, off its parts.
use Rattle.std.proofs.Common.{◌≡◌, ℕ, List, sym, subst}
use Rattle.fontinfo.specs.FontInfo.{AreNumbersWithin, AreTextsWithin}
use Rattle.ufo_source.specs.declared.folder.Master.{Master}
use Rattle.ufo_source.specs.Limits.{AreAllGlyphs, AreGlyphNames, AreGlyphsOf, IsMasterWithin, IsPartOf, IsWhole}
use Rattle.ufo_source.proofs.Drawings.{named_length}

pub whole_within : (master : Master) (names : List (List ℕ)) → master.names ≡ names → AreNumbersWithin master.info → AreTextsWithin master.info → AreAllGlyphs names master.glyphs → IsMasterWithin master
whole_within master names are numbers texts all =
    let own : AreAllGlyphs master.names master.glyphs = subst (λ names. AreAllGlyphs names master.glyphs) (sym are) all in
    record { numbers = numbers; texts = texts; drawings = own.within; counts = named_length master.names master.glyphs own.named }

pub whole_is : (master : Master) (names : List (List ℕ)) → master.names ≡ names → AreGlyphNames names → AreAllGlyphs names master.glyphs → IsWhole master
whole_is master names are tested all =
    let own : AreAllGlyphs master.names master.glyphs = subst (λ names. AreAllGlyphs names master.glyphs) (sym are) all in
    let named : AreGlyphNames master.names = subst AreGlyphNames (sym are) tested in
    record { names = named.each; few = named.few; names_once = named.once; there = own.there; named = own.named; codes_once = own.codes_once }

pub part_within : (master : Master) (names : List (List ℕ)) → master.names ≡ names → AreNumbersWithin master.info → AreTextsWithin master.info → AreGlyphsOf names master.glyphs → IsMasterWithin master
part_within master names are numbers texts all =
    let own : AreGlyphsOf master.names master.glyphs = subst (λ names. AreGlyphsOf names master.glyphs) (sym are) all in
    record { numbers = numbers; texts = texts; drawings = own.within; counts = named_length master.names master.glyphs own.named }

pub part_is : (wanted : List (List ℕ)) (master : Master) → master.names ≡ wanted → AreGlyphsOf wanted master.glyphs → IsPartOf wanted master
part_is wanted master names all = record { names = names; counts = named_length wanted master.glyphs all.named; named = all.named }
