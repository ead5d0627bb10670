-- What each kind of step makes of the views of its seats. All that a step does not name stands.
use Rattle.std.specs.Prelude.{ℕ, ◌+◌, true, false, List, [], ◌∷◌, ◌++◌, map, Option, Some, None, max}
use Rattle.pk_base.specs.declared.act.Entry.{Entry}
use Rattle.session_table.specs.declared.view.Note.{Note}
use Rattle.session_table.specs.declared.view.Line.{Line}
use Rattle.session_table.specs.declared.view.View.{View}
use Rattle.session_table.specs.Entries.{only, longer}
use Rattle.session_table.specs.Seats.{line_in, seen_of, mine_of, root}

-- the seat has this note on the partition p
abbrev pub noted : View → ℕ → Note → View
noted v p note = record v {
  lines =
      record { partition = p; seen = seen_of v p; mine = mine_of v p; note = Some note } ∷ v.lines;
}

-- a claim of p failed, since the seat s held it
abbrev pub looked_at : View → ℕ → ℕ → View
looked_at v p s =
    record v { looks = v.looks + 1; looked = Some (record { partition = p; seat = s }) }

-- the seat has let p go with this journal
abbrev pub let_go : View → ℕ → List Entry → View
let_go v p journal = record v {
  lines =
      record { partition = p; seen = journal; mine = only v.number journal; note = None } ∷ v.lines;
}

-- the seat may draw the next block
abbrev pub may_draw : View → View
may_draw v = record v { pending = true }

-- the seat has read that the next block is this one, above the last
abbrev pub passed : View → ℕ → View
passed v next = record v { pending = false; passes = v.passes + 1; past = Some next }

-- the seat has drawn this block for the partition p
abbrev pub drew : View → ℕ → Note → ℕ → View
drew v p note block =
    record v {
      pending = false;
      lines = record {
        partition = p;
        seen = seen_of v p;
        mine = mine_of v p;
        note = Some (record { journal = note.journal; blocks = note.blocks ++ block ∷ [] });
      } ∷ v.lines;
    }

-- root has made one seat more
abbrev pub made_one : View → View
made_one v = record v { made = v.made + 1 }

-- what was seen, of which nothing is one's own
abbrev pub only_seen : Line → Line
only_seen l = record { partition = l.partition; seen = l.seen; mine = []; note = None }

-- the next seat that root makes: it has seen what root has seen
abbrev pub newcomer : View → View
newcomer v = record (root v.bounds) { number = v.made + 1; lines = map only_seen v.lines }

-- the greater of two numbers, where there are any
abbrev pub greater : Option ℕ → Option ℕ → Option ℕ
greater None n = n
greater (Some m) None = Some m
greater (Some m) (Some n) = Some (max m n)

-- root's line on p, in which it has seen what either has seen
abbrev pub line_of_both : View → View → ℕ → Line
line_of_both v w p =
    let l = line_in v.lines p in
    record { partition = p; seen = longer l.seen (seen_of w p); mine = l.mine; note = l.note }

-- root has joined the seat
abbrev pub joined_by : View → View → View
joined_by v w =
    record v {
      lines = map (λ (l : Line). line_of_both v w l.partition) w.lines ++ v.lines;
      past = greater v.past w.past;
      joined = record { number = w.number; lines = w.lines; found = v.lines } ∷ v.joined;
    }

-- the view of a seat that was joined
abbrev pub nobody : View
nobody =
    record {
      bounds = record { partitions = 0; last = 0 };
      spent = true;
      number = 0;
      made = 0;
      lines = [];
      looks = 0;
      looked = None;
      pending = false;
      passes = 0;
      past = None;
      joined = [];
    }
