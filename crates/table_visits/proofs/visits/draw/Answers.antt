use Rattle.std.proofs.Common.{◌≡◌, ℕ, ◌<◌, ◌≤◌, ap, subst, refl, ◌∙◌, [], ◌∷◌, ◌++◌, None}
use Rattle.std.specs.Prelude.{Some}
use Rattle.pk_base.specs.declared.act.Entry.TheVariants.{Drew}
use Rattle.session_table.specs.declared.view.Bounds.{Bounds}
use Rattle.session_table.specs.Steps.{passed, drew}
use Rattle.session_table.specs.Faces.{Face, view_of}
use Rattle.session_table.specs.Named.{Named}
use Rattle.table_visits.proofs.Visiting.{kept, drawn, others_drew}
use Rattle.table_visits.proofs.visits.draw.Goals as goal

pub draw-requires-clause-empty : goal.draw-requires-clause-empty
draw-requires-clause-empty c = ap (λ (f : Face). f.slots c.args.p) c.in-Free.ensures.step ∙ c.requires.work.empty

pub write-requires-clause-work : goal.write-requires-clause-work
write-requires-clause-work c =
    let sheet = c.args.sheet.now in let v = view_of c.look.new.seat in let told = c.in-Block.ensures.step in let look = c.in-Free.ensures.step in
    let x : Named = record { number = sheet.number; holder = None; blocks = sheet.blocks.items; journal = sheet.journal.items } in
    drawn _ c.args.table.now c.args.seat.now c.draw.new.seat c.args.p x v told.note c.in-Block.block c.push_reserved.new.self.items
    (c.push_reserved.ensures.items ∙ ap (λ (k : ℕ). sheet.blocks.items ++ k ∷ []) c.from.ensures) c.requires.work c.draw.ensures.seat
    (told.seat ∙ (λ i. record { view = drew v c.args.p told.note c.in-Block.block; slots = (look i).slots }))
    (ap (λ (f : Face). f.view.lines) look) (ap (λ (f : Face). f.view.number) look) told.noted

pub returns-in-Past-clause-work : goal.returns-in-Past-clause-work
returns-in-Past-clause-work c =
    kept _ c.args.table.now c.args.seat.now c.look.new.seat c.args.p _ (passed (view_of c.args.seat.now) c.in-Past.field-0) c.requires.work c.look.ensures.seat c.in-Past.ensures.step.seat refl refl refl

pub returns-in-Past-draw-clause-work : goal.returns-in-Past-draw-clause-work
returns-in-Past-draw-clause-work c =
    let v = view_of c.look.new.seat in let told = c.in-Past-draw.ensures.step in let look = c.in-Free.ensures.step in
    kept _ c.args.table.now c.args.seat.now c.draw.new.seat c.args.p _ (passed v c.in-Past-draw.field-0) c.requires.work c.draw.ensures.seat
    (told.seat ∙ (λ i. record { view = passed v c.in-Past-draw.field-0; slots = (look i).slots }))
    (ap (λ (f : Face). f.view.lines) look) (ap (λ (f : Face). f.view.number) look) refl

pub returns-in-Block-clause-journal : goal.returns-in-Block-clause-journal
returns-in-Block-clause-journal c =
    let told = c.in-Block.ensures.step in let look = c.in-Free.ensures.step in let b : ℕ = c.in-Block.block in
    let bounds : (view_of c.look.new.seat).bounds ≡ (view_of c.args.seat.now).bounds = ap (λ (f : Face). f.view.bounds) look in
    let number : c.number-thread.result ≡ (view_of c.args.seat.now).number =
    c.number-thread.ensures ∙ ap (λ (f : Face). f.view.number) told.seat ∙ ap (λ (f : Face). f.view.number) look in (
      Some b,
      (subst (λ (k : Bounds). k.partitions < b) bounds told.fresh, subst (λ (k : Bounds). b ≤ k.last) bounds told.within),
      c.write.ensures.journal ∙ ap (λ (s : ℕ). c.args.sheet.now.journal.items ++ Drew s b ∷ []) number,
    )

pub returns-in-Block-clause-others : goal.returns-in-Block-clause-others
returns-in-Block-clause-others c =
    let told = c.in-Block.ensures.step in
    others_drew (view_of c.args.seat.now) _ c.args.p (view_of c.look.new.seat) told.note c.in-Block.block (ap (λ (f : Face). f.view.lines) c.in-Free.ensures.step)
    (ap (λ (f : Face). f.view) told.seat)
