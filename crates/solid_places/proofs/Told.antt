-- What an answer tells of the place that the shape has.
use Rattle.std.proofs.Common.{◌≡◌, List, Result, Ok, Err, refl, sym, ap, ◌∙◌}
use Rattle.std.specs.Prelude.{IfOk, IfErr}
use Rattle.pk_base.specs.declared.tag.Tag.{Tag}
use Rattle.pk_base.specs.declared.refusal.Refusal.{Refusal}
use Rattle.solid_model.specs.Items.{Shape}
use Rattle.solid_model.specs.Places as place
use Rattle.solid_places.specs.Placed.{placed_by, as_placed_face, as_placed_loop, as_placed_fin, as_placed_end}
use Rattle.solid_places.specs.declared.faces.PlacedFace.{PlacedFace}
use Rattle.solid_places.specs.declared.loops.PlacedLoop.{PlacedLoop}
use Rattle.solid_places.specs.declared.fins.PlacedFin.{PlacedFin}
use Rattle.solid_places.specs.declared.ends.End.{End}

pub refused-told : {A B : Type 0} (f : A → B) (r : Result A Refusal) (e : Refusal) → Err e ≡ placed_by f r → r ≡ Err e
refused-told f (Ok a) e h = absurd (cc)
refused-told f (Err e') e h = cc

-- the same of any answer
pub if_refused-told : {A B : Type 0} (f : A → B) (r : Result A Refusal) (b : Result B Refusal) → b ≡ placed_by f r → IfErr b (λ e. r ≡ Err e)
if_refused-told f r (Ok b) h = tt
if_refused-told f r (Err e) h = refused-told f r e h

-- what was read, and what it was read of
abbrev Read : {A B : Type 0} → (A → B) → Result A Refusal → B → Type 0
Read {A = A} f r b = (a : A) × (r ≡ Ok a) × (f a ≡ b)

read-told : {A B : Type 0} (f : A → B) (r : Result A Refusal) (b : B) → Ok b ≡ placed_by f r → Read f r b
read-told {B = B} f (Ok a) b h =
    let same : f a ≡ b = cc in
    (a, refl, same)
read-told f (Err e) b h = absurd (cc)

pub face-told : (r : Result place.PlacedFace Refusal) (f : PlacedFace) → Ok f ≡ placed_by as_placed_face r
    → r ≡ Ok (record { shell = f.shell; body = f.body; outer = f.outer })
face-told r f h =
    let x = read-told as_placed_face r f h in
    x.1 ∙ ap (λ (p : PlacedFace). Ok (record { shell = p.shell; body = p.body; outer = p.outer })) x.2

pub loop-told : (r : Result place.PlacedLoop Refusal) (l : PlacedLoop) → Ok l ≡ placed_by as_placed_loop r
    → r ≡ Ok (record { face = l.face; outer = l.outer; shell = l.shell; body = l.body })
loop-told r l h =
    let x = read-told as_placed_loop r l h in
    x.1 ∙ ap (λ (p : PlacedLoop). Ok (record { face = p.face; outer = p.outer; shell = p.shell; body = p.body })) x.2

pub fin-told : (r : Result place.PlacedFin Refusal) (f : PlacedFin) (ring : List Tag) → Ok f ≡ placed_by as_placed_fin r → ((u : place.PlacedFin) → r ≡ Ok u → u.fins ≡ ring)
    → r ≡ Ok (record {
      mate = f.mate;
      edge = f.edge;
      vertex = f.vertex;
      loop_ = f.loop_;
      face = f.face;
      shell = f.shell;
      body = f.body;
      fins = ring;
    })
fin-told r f ring h fins =
    let x = read-told as_placed_fin r f h in
    let same = x.2 in
    let list = fins x.0 x.1 in
    x.1 ∙ (λ i. Ok (record {
      mate = (same i).mate;
      edge = (same i).edge;
      vertex = (same i).vertex;
      loop_ = (same i).loop_;
      face = (same i).face;
      shell = (same i).shell;
      body = (same i).body;
      fins = list i;
    }))

pub end-told : (S : Shape) (r : Result place.End Refusal) (e : End) (ring : List Tag) → Ok e ≡ placed_by (as_placed_end S) r → ((u : place.End) → r ≡ Ok u → u.fins ≡ ring)
    → r ≡ Ok (record {
      vertex = e.vertex;
      loop_ = e.loop_;
      face = e.face;
      body = e.body;
      fins = ring;
    })
end-told S r e ring h fins =
    let x = read-told (as_placed_end S) r e h in
    let same = x.2 in
    let list = fins x.0 x.1 in
    x.1 ∙ (λ i. Ok (record {
      vertex = (same i).vertex;
      loop_ = (same i).loop_;
      face = (same i).face;
      body = (same i).body;
      fins = list i;
    }))

pub outer-told : (S : Shape) (r : Result place.End Refusal) (e : End) → Ok e ≡ placed_by (as_placed_end S) r → e.outer ≡ place.outer_at S e.face
outer-told S r e h =
    let x = read-told (as_placed_end S) r e h in
    sym (ap (λ (p : End). p.outer) x.2) ∙ ap (λ (p : End). place.outer_at S p.face) x.2

-- ---- and back

pub face-placed : (r : Result place.PlacedFace Refusal) (b : Result PlacedFace Refusal) → IfOk b (λ f. r ≡ Ok (record { shell = f.shell; body = f.body; outer = f.outer })) → IfErr b (λ e. r ≡ Err e)
    → b ≡ placed_by as_placed_face r
face-placed r (Ok f) found refused = ap (placed_by as_placed_face) (sym found)
face-placed r (Err e) found refused = ap (placed_by as_placed_face) (sym refused)

pub loop-placed : (r : Result place.PlacedLoop Refusal) (b : Result PlacedLoop Refusal) → IfOk b (λ l. r ≡ Ok (record { face = l.face; outer = l.outer; shell = l.shell; body = l.body })) → IfErr b (λ e. r ≡ Err e)
    → b ≡ placed_by as_placed_loop r
loop-placed r (Ok l) found refused = ap (placed_by as_placed_loop) (sym found)
loop-placed r (Err e) found refused = ap (placed_by as_placed_loop) (sym refused)
