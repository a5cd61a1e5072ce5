use Rattle.std.proofs.Common.{length, map, ap}
use Rattle.std.proofs.lemmas.List.{length-map}
use Rattle.font_project.proofs.FilterLists.{all_same, called_once}
use Rattle.font_project.proofs.filtering.filtered_outline.Goals as goal

pub returns-in_err-fault_of-in-Err-default-Range-clause-same : goal.returns-in_err-fault_of-in-Err-default-Range-clause-same
returns-in_err-fault_of-in-Err-default-Range-clause-same g c =
    let all = c.apply_all.ensures in all_same _ _ _ _ _ _ _ all.settings_stay all.names_stay all.texts_stay all.images_stay all.kinds_stay

pub returns-in-Ok-clause-same : goal.returns-in-Ok-clause-same
returns-in-Ok-clause-same g c =
    let all = c.apply_all.ensures in all_same _ _ _ _ _ _ _ all.settings_stay all.names_stay all.texts_stay all.images_stay all.kinds_stay

pub returns-in-Ok-clause-touched : goal.returns-in-Ok-clause-touched
returns-in-Ok-clause-touched g c = called_once (length c.args.filters.now) _ _ (length-map c.args.filters.now _) c.in-Ok.ensures.touches_rise

pub returns-in_ok-fault_of-in-Err-default-Range-clause-same : goal.returns-in_ok-fault_of-in-Err-default-Range-clause-same
returns-in_ok-fault_of-in-Err-default-Range-clause-same g c =
    let all = c.apply_all.ensures in all_same _ _ _ _ _ _ _ all.settings_stay all.names_stay all.texts_stay all.images_stay all.kinds_stay

pub returns-in-Err-default-NoMemory-clause-same : goal.returns-in-Err-default-NoMemory-clause-same
returns-in-Err-default-NoMemory-clause-same g c =
    let all = c.apply_all.ensures in all_same _ _ _ _ _ _ _ all.settings_stay all.names_stay all.texts_stay all.images_stay all.kinds_stay
