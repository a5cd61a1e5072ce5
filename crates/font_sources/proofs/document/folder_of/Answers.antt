use Rattle.std.proofs.Common.{◌∙◌}
use Rattle.font_sources.proofs.Folder.{folder_named, folder_none}
use Rattle.font_sources.proofs.document.folder_of.Goals as goal

pub returns-in-Some : goal.returns-in-Some
returns-in-Some c = c.or_root.ensures ∙ folder_named c.args.path.now c.in-Some.folder.now c.in-Some.field-0-1.now c.in-Some.ensures.cases

pub returns-in-None : goal.returns-in-None
returns-in-None c = folder_none c.args.path.now c.in-None.ensures.cases
