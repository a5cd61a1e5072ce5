use Rattle.std.proofs.Common.{length, ap, sym, subst, arith}
use Rattle.std.proofs.lemmas.List.{length-map}
use Rattle.cmap_name.specs.Names.{AreNames}
use Rattle.font_tables.specs.FontNames.{copyright_name, info_names, instance_names_of, labels_of}
use Rattle.font_tables.proofs.NameLemmas.{are_names, names_joined}
use Rattle.font_tables.proofs.naming.names.Goals as goal

pub returns-clause-value : goal.returns-clause-value
returns-clause-value c =
    let project = c.args.project.now in
    let labels = rw c.as_slice-axes.ensures at c.in_ok-push_labels.ensures in
    let instances = rw c.as_slice-instances.ensures at c.in_ok-push_instances.ensures in
    names_joined c.new-names.result c.push_copyright.new.names c.push_info.new.names c.push_labels.new.names c.push_instances.new.names
    (copyright_name project.info.copyright) (info_names project.info) (labels_of project.design) (instance_names_of project.design) _
    c.new-names.ensures c.in_ok-push_copyright.ensures c.in_ok-push_info.ensures.value labels instances
    (omega (arith, ap length c.as_slice-axes.ensures, length-map project.design.axes (λ axis. axis.label)))

pub returns-clause-writable : goal.returns-clause-writable
returns-clause-writable c =
    let project = c.args.project.now in
    subst AreNames (sym (returns-clause-value c)) (are_names project c.requires.design c.requires.texts c.in_ok-push_info.ensures.short)
