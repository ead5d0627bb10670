use Rattle.std.proofs.Common.{◌≡◌, ◌+◌, ◌≤◌, ◌∷◌, replicate, length, vec_len, ap, sym, subst, ◌∙◌}
use Rattle.atomic_table.specs.Table.{opening as table_opening}
use Rattle.session_table.specs.declared.view.Bounds.{Bounds}
use Rattle.session_table.specs.Named.{openings}
use Rattle.session_table.specs.Seats.{root}
use Rattle.session_table.specs.Rule.{Rule}
use Rattle.session_table.proofs.Opened.{opens}
use Rattle.session_table.proofs.table.SessionTable.begin.Goals as goal

pub new-requires : goal.new-requires
new-requires g c =
    let named = g.X.Naming.named in let xs = c.args.partitions.items in
    let bounds : Bounds = record { partitions = c.len.result; last = c.args.last } in
    let long : length xs ≡ vec_len c.args.partitions = sym c.args.partitions.ok.0 in
    let same : c.len-2.result ≡ c.len.result = c.len-2.ensures ∙ sym c.len.ensures in
    let words : c.as_slice.result.now ≡ (bounds.partitions + 1) ∷ replicate bounds.partitions 0 =
    c.as_slice.ensures.value ∙ c.in_ok-words.ensures ∙ ap (λ n. (n + 1) ∷ replicate n 0) same in
    subst (λ slots. Rule named bounds (table_opening c.as_slice.result.now slots (root bounds))) (sym c.in_ok-slots.ensures)
    (opens named bounds xs c.as_slice.result.now words (long ∙ sym c.len.ensures) (c.requires.opening ∙ ap (openings 1) (sym long))
    (subst (λ n. n ≤ c.args.last) (sym c.len.ensures) c.requires.last) c.ranges.last.fits)
