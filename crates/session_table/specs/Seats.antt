-- What a seat keeps, and what it keeps of each partition.
use Rattle.std.specs.Prelude.{◌≡◌, ◌≢◌, ℕ, Bool, false, cond, ◌==◌, List, [], ◌∷◌, Option, Some, None}
use Rattle.std.proofs.Common.{ap, eq-eqb, ne_eqb}
use Rattle.pk_base.specs.declared.act.Entry.{Entry}
use Rattle.session_table.specs.declared.view.Bounds.{Bounds}
use Rattle.session_table.specs.declared.view.Note.{Note}
use Rattle.session_table.specs.declared.view.Line.{Line}
use Rattle.session_table.specs.declared.view.Joined.{Joined}
use Rattle.session_table.specs.declared.view.View.{View}

-- nothing was seen of the partition p
abbrev pub blank_line : ℕ → Line
blank_line p = record { partition = p; seen = []; mine = []; note = None }

-- the newest line on the partition p
abbrev pub line_in : List Line → ℕ → Line
line_in [] p = blank_line p
line_in (l ∷ ls) p = cond (l.partition == p) l (line_in ls p)

pub line_here : (l : Line) (ls : List Line) (q : ℕ) → l.partition ≡ q → line_in (l ∷ ls) q ≡ l
line_here l ls q e = ap (λ (b : Bool). cond b l (line_in ls q)) (eq-eqb l.partition q e)

pub line_there : (l : Line) (ls : List Line) (q : ℕ) → l.partition ≢ q → line_in (l ∷ ls) q
    ≡ line_in ls q
line_there l ls q ne = ap (λ (b : Bool). cond b l (line_in ls q)) (ne_eqb l.partition q ne)

abbrev pub seen_of : View → ℕ → List Entry
seen_of v p = (line_in v.lines p).seen

abbrev pub mine_of : View → ℕ → List Entry
mine_of v p = (line_in v.lines p).mine

abbrev pub note_of : View → ℕ → Option Note
note_of v p = (line_in v.lines p).note

-- the joined seat with this number, if there is one
abbrev pub joined_as : List Joined → ℕ → Option Joined
joined_as [] s = None
joined_as (j ∷ js) s = cond (j.number == s) (Some j) (joined_as js s)

-- the first seat of a session: it has seen and made nothing
abbrev pub root : Bounds → View
root bounds =
    record {
      bounds = bounds;
      spent = false;
      number = 0;
      made = 0;
      lines = [];
      looks = 0;
      looked = None;
      pending = false;
      passes = 0;
      past = None;
      joined = [];
    }
