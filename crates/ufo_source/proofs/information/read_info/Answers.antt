use Rattle.plist.specs.Values.{plain_value}
use Rattle.source_files.specs.Trees.{in_file}
use Rattle.fontinfo.specs.FontInfo.{info_of}
use Rattle.ufo_source.specs.Information.{fontinfo_path, info_at}
use Rattle.ufo_source.specs.Paths.{IsIn}
use Rattle.ufo_source.specs.PropertyLists.{value_or_empty}
use Rattle.ufo_source.proofs.Then.{reads_then}
use Rattle.ufo_source.proofs.information.read_info.Goals as goal

pub returns-clause-exact : goal.returns-clause-exact
unfolding info_at
returns-clause-exact g c =
    reads_then _ _ (IsIn c.args.folder.now) plain_value (λ info. info) (value_or_empty (g.S.Sources.state c.args.sources.now).files (fontinfo_path c.args.folder.now)) (λ value. in_file (fontinfo_path c.args.folder.now) (info_of value))
    c.in_ok-value.value c.info_in.result c.in_ok-value.ensures c.info_in.ensures.answers c.info_in.ensures.never
