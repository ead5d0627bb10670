use Rattle.std.proofs.Common.{◌≡◌, ap, ◌∙◌, rules, map}
use Rattle.script_thread.specs.Thread.{bind_tags}
use Rattle.script_thread.specs.Names.{named}
use Rattle.std.specs.Prelude.{nat_eq}
use Rattle.std.specs.Cmp.Lexicographic.{pointwise}
use Rattle.indexmap.specs.IndexMap.{insert_entry}
use Rattle.script_thread.proofs.Naming.{named-insert}
use Rattle.script_thread.proofs.names.Names.bind.Goals as goal

pub returns-in_ok-insert : goal.returns-in_ok-insert
returns-in_ok-insert c =
    let name = c.in-Some-Some.name in
    let tags = c.in-Some-Some.tags.now in
    let bound : map named c.insert.new.self.entries ≡ bind_tags c.args.self.now name tags =
    ap (map named) c.in_ok-insert.ensures.entries
    ∙ ap (λ ts. map named (insert_entry (pointwise nat_eq) c.self.inside.bound.entries name.0 ts)) c.in_ok-copy.ensures
    ∙ named-insert c.self.inside.bound.entries name tags
    ∙ ap (λ ns. bind_tags ns name tags) c.self.view_is in
    search rules
