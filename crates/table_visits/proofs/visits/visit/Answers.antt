use Rattle.std.proofs.Common.{◌≡◌, ℕ, [], ap, sym, subst, ◌∙◌, inr}
use Rattle.std.proofs.lemmas.List.{append-nil}
use Rattle.session_table.specs.declared.view.Bounds.{Bounds}
use Rattle.session_table.specs.declared.view.View.{View}
use Rattle.session_table.specs.Seats.{note_of}
use Rattle.session_table.specs.Faces.{Face, view_of}
use Rattle.session_table.specs.Steps.{noted}
use Rattle.table_visits.specs.Visits.{visit_of, CanBeDrawn, HasLeft}
use Rattle.table_visits.proofs.Visiting.{comes, filled_by_claim, has_left}
use Rattle.table_visits.proofs.visits.visit.Goals as goal

pub take_out-sheet-requires-clause-filled : goal.take_out-sheet-requires-clause-filled
take_out-sheet-requires-clause-filled c = filled_by_claim _ _ c.args.p c.in-Won.ensures.step

pub finish-requires : goal.finish-requires
finish-requires c =
    let knows = c.reserve.ensures.same.knows in
    comes _ c.args.table.now c.reserve.new.self c.claim.new.seat c.take_out-sheet.new.seat c.args.p _
    (λ q. ap (λ m. note_of m.0 q) knows ∙ c.requires.idle.nothing q) (ap (λ m. m.0.pending) knows ∙ c.requires.idle.calm)
    c.in-Won.ensures.step c.take_out-sheet.ensures.step c.take_out-sheet.ensures.seat

pub returns-in-Ok-clause-visit : goal.returns-in-Ok-clause-visit
returns-in-Ok-clause-visit c =
    let knows = c.reserve.ensures.same.knows in let out = view_of c.take_out-sheet.new.seat in let old = view_of c.args.seat.now in
    let same : out ≡ noted (view_of c.reserve.new.self) c.args.p c.in-Won.ensures.step.note =
    ap (λ (f : Face). f.view) c.take_out-sheet.ensures.step.seat ∙ ap (λ (f : Face). f.view) c.in-Won.ensures.step.seat in
    let bounds : out.bounds ≡ old.bounds = ap (λ (v : View). v.bounds) same ∙ ap (λ m. m.0.bounds) knows in
    let number : out.number ≡ old.number = ap (λ (v : View). v.number) same ∙ ap (λ m. m.0.number) knows in
    let worked = c.in-Ok.ensures.worked in record {
      drawn = worked.0;
      block = subst (λ (k : Bounds). CanBeDrawn k worked.0) bounds worked.1;
      left = subst (λ (s : ℕ). HasLeft old c.args.p (visit_of s worked.0) (view_of c.finish.new.seat)) number
          (subst (λ m. HasLeft m.0 c.args.p (visit_of out.number worked.0) (view_of c.finish.new.seat)) knows
          (has_left _ _ _ c.args.p _ (visit_of out.number worked.0) (view_of c.finish.new.seat) c.in-Won.ensures.step c.take_out-sheet.ensures.step worked.2
          c.in-Ok.ensures.done c.in-Ok.ensures.others));
    }

pub returns-in-Err-clause-visit : goal.returns-in-Err-clause-visit
returns-in-Err-clause-visit c =
    inr (subst (λ m. HasLeft m.0 c.args.p [] (view_of c.finish.new.seat)) c.reserve.ensures.same.knows
    (has_left _ _ _ c.args.p _ [] (view_of c.finish.new.seat) c.in-Won.ensures.step c.take_out-sheet.ensures.step
    (c.in-Err.ensures.failed ∙ sym (append-nil c.take_out-sheet.result.journal.items)) c.in-Err.ensures.done c.in-Err.ensures.others))
