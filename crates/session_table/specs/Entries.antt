-- The entries of a journal: whose they are, and how journals grow.
use Rattle.std.specs.Prelude.{◌≡◌, ℕ, cond, nat_lt, ◌==◌, List, ◌++◌, length}
use Rattle.std.specs.List.{filter, AllByRecursion}
use Rattle.pk_base.specs.declared.act.Entry.{Entry}
use Rattle.pk_base.specs.declared.act.Entry.TheVariants.{Claimed, Drew, Did, Spent, Released}

-- the number of the thread whose entry it is, which is the number of its seat
abbrev pub thread_of : Entry → ℕ
thread_of (Claimed t) = t
thread_of (Drew t b) = t
thread_of (Did t a) = t
thread_of (Spent t next a) = t
thread_of (Released t) = t

-- the entries of the seat s
abbrev pub only : ℕ → List Entry → List Entry
only s entries = filter (λ e. thread_of e == s) entries

-- all entries are the seat's
abbrev pub AreAll : ℕ → List Entry → Type 0
AreAll s entries = AllByRecursion (λ e. thread_of e ≡ s) entries

-- the journal begins with these entries
abbrev pub StartsWith : List Entry → List Entry → Type 0
StartsWith journal seen = (further : List Entry) × (journal ≡ seen ++ further)

-- the journal is the earlier one and further entries of the seat s alone
abbrev pub Continues : ℕ → List Entry → List Entry → Type 0
Continues s earlier journal = (own : List Entry) × (journal ≡ earlier ++ own) × AreAll s own

-- the longer one; the first of two that are as long
abbrev pub longer : List Entry → List Entry → List Entry
longer xs ys = cond (nat_lt (length xs) (length ys)) ys xs
