-- What is answered over maps is what is answered over the shapes that they stand for.
use Rattle.std.proofs.Common.{◌≡◌, ℕ, Bool, true, false, List, [], ◌∷◌, ◌++◌, Option, Some, None, Result, Ok, Err, refl, sym, ap, ◌∙◌}
use Rattle.std.specs.Prelude.{◌+◌, ◌==◌, nat_lt, ◌&&◌, if◌then◌else◌, map, take}
use Rattle.std.specs.List.{list_all}
use Rattle.std.specs.Option.{option_map_or}
use Rattle.std.proofs.lemmas.Bool.{and_parts}
use Rattle.pk_base.specs.Blocks.{tag}
use Rattle.pk_base.specs.declared.tag.Tag.{Tag}
use Rattle.pk_base.specs.declared.call.Call.{Call}
use Rattle.pk_base.specs.declared.refusal.Refusal.{Refusal}
use Rattle.pk_base.specs.declared.act.Reply.TheVariants.{Made, Done}
use Rattle.pk_model.specs.Tags.{next_tags, spare_of}
use Rattle.pk_model.specs.State.{Mark, PartitionState, opening}
use Rattle.pk_model.specs.Modelling.{Modelling, Outcome}
use Rattle.pk_model.specs.Step.{◌>>=◌, Stepped, step, with_answer, call_reaches, blocks_short}
use Rattle.pk_model.specs.Replay.{AnsweredEntry, answered_entries_from}
use Rattle.solid_model.specs.Items.{Shape}
use Rattle.solid_model.specs.Rows.{Row, cost_of}
use Rattle.solid_model.specs.Rows.Effect.{Makes, Changes, Tells}
use Rattle.solid_model.specs.Links.{links}
use Rattle.solid_model.specs.Shapes.{shape_of}
use Rattle.solid_model.specs.Calls.{row_of}
use Rattle.solid_model.specs.Euler.{euler, step_by}
use Rattle.solid_model.proofs.Written.{is_read, shape_of-read, links-nothing}
use Rattle.solid_laws.specs.WorkedCalls.{Line, Answer, entry_of, answers}
use Rattle.solid_laws.specs.WorkedCalls.Line.{Does, Draws}

-- ---- over shapes

abbrev shape_after : Row → List Tag → Shape → Shape
shape_after (Ok (Makes k reaches)) tags S = reaches tags
shape_after (Ok (Changes reached)) tags S = reached
shape_after (Ok (Tells reply)) tags S = S
shape_after (Err e) tags S = S

abbrev used_after : Row → ℕ → ℕ
used_after (Ok (Makes k reaches)) used = used + k
used_after (Ok (Changes reached)) used = used + 0
used_after (Ok (Tells reply)) used = used + 0
used_after (Err e) used = used

abbrev answer_of : Row → List Tag → Answer
answer_of (Ok (Makes k reaches)) tags = Some (Ok (Made (take k tags)))
answer_of (Ok (Changes reached)) tags = Some (Ok Done)
answer_of (Ok (Tells reply)) tags = Some (Ok reply)
answer_of (Err e) tags = Some (Err e)

abbrev fits : Row → List ℕ → ℕ → Bool
fits row blocks used = blocks_short (cost_of row) (spare_of blocks used) == 0

-- ---- by the rows R of a modelling K

module _ (R : Shape → Call → Row) where
  abbrev pub answers_on : Shape → List ℕ → ℕ → List Line → List Answer
  answers_on S blocks used [] = []
  answers_on S blocks used (Does c ∷ ls) =
      let row = R S c in
      let tags = next_tags blocks used in
      let rest = answers_on (shape_after row tags S) blocks (used_after row used) ls in
      if fits row blocks used then (answer_of row tags ∷ rest) else []
  answers_on S blocks used (Draws b ∷ ls) =
      let rest = answers_on S (blocks ++ b ∷ []) used ls in
      if list_all (λ o. nat_lt o b) blocks then (None ∷ rest) else []

  -- each shape before a call is read again from its entities
  abbrev pub are_read : Shape → List ℕ → ℕ → List Line → Bool
  are_read S blocks used [] = true
  are_read S blocks used (Does c ∷ ls) =
      let row = R S c in
      is_read S && are_read (shape_after row (next_tags blocks used) S) blocks (used_after row used) ls
  are_read S blocks used (Draws b ∷ ls) = are_read S (blocks ++ b ∷ []) used ls

abbrev held : Shape → List Mark → Tag → List ℕ → ℕ → PartitionState
held S marks at blocks used = record {
  now = links S;
  marks = marks;
  at = at;
  blocks = blocks;
  used = used;
  holder = Some 1;
}

-- the modelling does on the map of a shape what the row says of the shape
pub record DoesRows (K : Modelling) (R : Shape → Call → Row) : Type 0 where
  pub step_is : (S : Shape) (c : Call) (tags : List Tag) → shape_of (links S) ≡ S → K.step (links S) c tags ≡ step_by (links S) tags (R S c)
  pub cost_is : (S : Shape) (c : Call) → shape_of (links S) ≡ S → K.cost (links S) c ≡ cost_of (R S c)

module _ (K : Modelling) (R : Shape → Call → Row) (does : DoesRows K R) (marks : List Mark) (at : Tag) where
  abbrev pub told : PartitionState → List Line → List Answer
  told s ls = map (λ (x : AnsweredEntry). x.answer) (answered_entries_from K s (map entry_of ls))

  abbrev told_after : Option Stepped → List Line → List Answer
  told_after None ls = []
  told_after (Some r) ls = r.answer ∷ told r.state ls

  told-more : (s : PartitionState) (l : Line) (ls : List Line) → told s (l ∷ ls) ≡ told_after (step K s (entry_of l)) ls
  told-more s l ls = elim (step K s (entry_of l)) as (λ o. map (λ (x : AnsweredEntry). x.answer) (option_map_or (λ (r : Stepped). record { entry = entry_of l; before = s; answer = r.answer } ∷ answered_entries_from K r.state (map entry_of ls)) o []) ≡ told_after o ls) [
    | None ↦ refl
    | Some r ↦ refl
  ]

  -- a step of a call, by its cost and its outcome
  abbrev stepped : PartitionState → ℕ → Result Outcome Refusal → Option Stepped
  stepped s cost o =
      if blocks_short cost (spare_of s.blocks s.used) == 0
      then Some (with_answer s (o >>= λ x. Ok (call_reaches K s cost x)))
      else None

  chosen : (b : Bool) (s : Stepped) (ls : List Line) (a : Answer) (rest : List Answer)
      → s.answer ≡ a → told s.state ls ≡ rest
      → told_after (if b then Some s else None) ls ≡ (if b then (a ∷ rest) else [])
  chosen true s ls a rest e h = λ i. e i ∷ h i
  chosen false s ls a rest e h = refl

  by_row : (S : Shape) (blocks : List ℕ) (used : ℕ) (ls : List Line) (row : Row) (rest : List Answer)
      → told (held (shape_after row (next_tags blocks used) S) marks at blocks (used_after row used)) ls ≡ rest
      → told_after (stepped (held S marks at blocks used) (cost_of row) (step_by (links S) (next_tags blocks used) row)) ls ≡ (if fits row blocks used then (answer_of row (next_tags blocks used) ∷ rest) else [])
  by_row S blocks used ls (Ok (Makes k reaches)) rest h = chosen (fits (Ok (Makes k reaches)) blocks used) _ ls _ rest refl h
  by_row S blocks used ls (Ok (Changes reached)) rest h = chosen (fits (Ok (Changes reached)) blocks used) _ ls _ rest refl h
  by_row S blocks used ls (Ok (Tells reply)) rest h = chosen (fits (Ok (Tells reply)) blocks used) _ ls _ rest refl h
  by_row S blocks used ls (Err e) rest h = chosen (fits (Err e) blocks used) _ ls _ rest refl h

  by_call : (S : Shape) (c : Call) (blocks : List ℕ) (used : ℕ) (ls : List Line) (rest : List Answer)
      → shape_of (links S) ≡ S
      → told (held (shape_after (R S c) (next_tags blocks used) S) marks at blocks (used_after (R S c) used)) ls ≡ rest
      → told (held S marks at blocks used) (Does c ∷ ls) ≡ (if fits (R S c) blocks used then (answer_of (R S c) (next_tags blocks used) ∷ rest) else [])
  by_call S c blocks used ls rest read h =
      let s = held S marks at blocks used in
      told-more s (Does c) ls
      ∙ (λ i. told_after (stepped s (does.cost_is S c read i) (does.step_is S c (next_tags blocks used) read i)) ls)
      ∙ by_row S blocks used ls (R S c) rest h

  by_draw : (S : Shape) (b : ℕ) (blocks : List ℕ) (used : ℕ) (ls : List Line) (rest : List Answer)
      → told (held S marks at (blocks ++ b ∷ []) used) ls ≡ rest
      → told (held S marks at blocks used) (Draws b ∷ ls) ≡ (if list_all (λ o. nat_lt o b) blocks then (None ∷ rest) else [])
  by_draw S b blocks used ls rest h =
      told-more (held S marks at blocks used) (Draws b) ls
      ∙ chosen (list_all (λ o. nat_lt o b) blocks) _ ls None rest refl h

  pub by_shape : (S : Shape) (blocks : List ℕ) (used : ℕ) (ls : List Line) → are_read R S blocks used ls ≡ true
      → told (held S marks at blocks used) ls ≡ answers_on R S blocks used ls
  by_shape S blocks used [] read = refl
  by_shape S blocks used (Does c ∷ ls) read =
      let both = and_parts (is_read S) _ read in
      by_call S c blocks used ls _ (shape_of-read S both.0) (by_shape (shape_after (R S c) (next_tags blocks used) S) blocks (used_after (R S c) used) ls both.1)
  by_shape S blocks used (Draws b ∷ ls) read = by_draw S b blocks used ls _ (by_shape S (blocks ++ b ∷ []) used ls read)

-- ---- of all calls

euler_rows : DoesRows euler row_of
euler_rows = record {
  step_is = λ S c tags read. ap (λ (X : Shape). step_by (links S) tags (row_of X c)) read;
  cost_is = λ S c read. ap (λ (X : Shape). cost_of (row_of X c)) read;
}

-- the answers in partition 1 are those over shapes, from the one where nothing stands
pub answers-on_shapes : (ls : List Line) → are_read row_of [] (1 ∷ []) 1 ls ≡ true → answers ls ≡ None ∷ answers_on row_of [] (1 ∷ []) 1 ls
answers-on_shapes ls read =
    let marks = (opening 1).marks in
    (λ i. None ∷ told euler row_of euler_rows marks (tag 64) (record (held [] marks (tag 64) (1 ∷ []) 1) { now = sym links-nothing i }) ls)
    ∙ (λ i. None ∷ by_shape euler row_of euler_rows marks (tag 64) [] (1 ∷ []) 1 ls read i)
