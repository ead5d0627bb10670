-- Cyclic lists written from another of their tags.
use Rattle.std.proofs.Common.{◌≡◌, ◌⊎◌, inl, inr, ⊎_elim, List, [], ◌∷◌, ◌++◌, refl, sym, ap, subst, ◌∙◌, arith}
use Rattle.std.specs.Prelude.{Contains}
use Rattle.std.specs.List.{AllByRecursion}
use Rattle.pk_base.specs.declared.tag.Tag.{Tag}
use Rattle.pk_model.specs.Apart.{NoRepeats}
use Rattle.solid_model.specs.Rings.{before, from, written_from, least_of, from_least, neighbours, neighbours_from}
use Rattle.list_facts.proofs.Elements.{not_in_nil, Contains-first, Contains-later, Contains-cases}
use Rattle.list_facts.proofs.Each.{ByRecursion-contains, ByRecursion-at}
use Rattle.solid_model.proofs.lists.Neighbours.{times, times-in, in-times, before-from}
use Rattle.solid_model.proofs.lists.Cycles.{neighbours-turned, times-turned, once-turned}

-- ---- the ends of a chain

-- A chain from x on that comes to another end: its last neighbour is another, and all else stays.
pub chain_end : (a b x : Tag) (xs : List Tag) (p q : Tag) → Contains (neighbours_from a x xs) (p, q)
    → ((q ≡ a) × Contains (neighbours_from b x xs) (p, b)) ⊎ (Contains xs q × Contains (neighbours_from b x xs) (p, q))
chain_end a b x [] p q k =
    ⊎_elim {C = ((q ≡ a) × Contains (neighbours_from b x []) (p, b)) ⊎ (Contains [] q × Contains (neighbours_from b x []) (p, q))}
    (λ (e : (x, a) ≡ (p, q)). inl (
      sym (ap (λ (n : Tag × Tag). n.1) e),
      subst (λ t. Contains {X = Tag × Tag} ((x, b) ∷ []) (t, b)) (ap (λ (n : Tag × Tag). n.0) e) (Contains-first (x, b) []),
    ))
    (λ (r : Contains {X = Tag × Tag} [] (p, q)). absurd (not_in_nil (p, q) r))
    (Contains-cases (x, a) [] (p, q) k)
chain_end a b x (y ∷ ys) p q k =
    ⊎_elim {C = ((q ≡ a) × Contains (neighbours_from b x (y ∷ ys)) (p, b)) ⊎ (Contains (y ∷ ys) q × Contains (neighbours_from b x (y ∷ ys)) (p, q))}
    (λ (e : (x, y) ≡ (p, q)). inr (
      subst (Contains (y ∷ ys)) (ap (λ (n : Tag × Tag). n.1) e) (Contains-first y ys),
      subst (Contains {X = Tag × Tag} ((x, y) ∷ neighbours_from b y ys)) e (Contains-first (x, y) (neighbours_from b y ys)),
    ))
    (λ (r : Contains (neighbours_from a y ys) (p, q)).
    ⊎_elim {C = ((q ≡ a) × Contains (neighbours_from b x (y ∷ ys)) (p, b)) ⊎ (Contains (y ∷ ys) q × Contains (neighbours_from b x (y ∷ ys)) (p, q))}
    (λ (l : (q ≡ a) × Contains (neighbours_from b y ys) (p, b)). inl (l.0, Contains-later (x, y) (neighbours_from b y ys) (p, b) l.1))
    (λ (m : Contains ys q × Contains (neighbours_from b y ys) (p, q)). inr (Contains-later y ys q m.0, Contains-later (x, y) (neighbours_from b y ys) (p, q) m.1))
    (chain_end a b y ys p q r))
    (Contains-cases (x, y) (neighbours_from a y ys) (p, q) k)

-- what holds of each with the next one holds with another end
pub all_to_end : (P : Tag × Tag → Type 0) (a b x : Tag) (xs : List Tag) → ((p : Tag) → P (p, a) → P (p, b)) → AllByRecursion P (neighbours_from a x xs) → AllByRecursion P (neighbours_from b x xs)
all_to_end P a b x [] h all = (h x all.0, tt)
all_to_end P a b x (y ∷ ys) h all = (all.0, all_to_end P a b y ys h all.1)

-- ---- one cyclic list

-- ys is xs, written from another place
pub record Turned (xs ys : List Tag) : Type 0 where
  pub pre : List Tag
  pub post : List Tag
  pub here : xs ≡ pre ++ post
  pub there : ys ≡ post ++ pre

pub turned-back : (xs ys : List Tag) → Turned xs ys → Turned ys xs
turned-back xs ys h = record { pre = h.post; post = h.pre; here = h.there; there = h.here }

pub turned-written : (f : Tag) (xs : List Tag) → Turned xs (written_from f xs)
turned-written f xs = record { pre = before f xs; post = from f xs; here = sym (before-from f xs); there = refl }

pub turned-least : (xs : List Tag) → Turned xs (from_least xs)
turned-least [] = record { pre = []; post = []; here = refl; there = refl }
turned-least (t ∷ ts) = turned-written (least_of t ts) (t ∷ ts)

pub turned-times : (xs ys : List Tag) → Turned xs ys → (f : Tag) → times f xs ≡ times f ys
turned-times xs ys h f = ap (times f) h.here ∙ times-turned f h.pre h.post ∙ ap (times f) (sym h.there)

pub turned-in : (xs ys : List Tag) → Turned xs ys → (f : Tag) → Contains xs f → Contains ys f
turned-in xs ys h f k = in-times f ys (let same = turned-times xs ys h f in omega (arith, same, times-in f xs k))

pub turned-once : (xs ys : List Tag) → Turned xs ys → NoRepeats xs → NoRepeats ys
turned-once xs ys h once = subst NoRepeats (sym h.there) (once-turned h.pre h.post (subst NoRepeats h.here once))

-- the neighbours of each stay
pub turned-neighbours : (xs ys : List Tag) → Turned xs ys → (n : Tag × Tag) → Contains (neighbours xs) n → Contains (neighbours ys) n
turned-neighbours xs ys h n k = subst (λ ts. Contains (neighbours ts) n) (sym h.there) (neighbours-turned h.pre h.post n (subst (λ ts. Contains (neighbours ts) n) h.here k))

pub turned-all : (P : Tag × Tag → Type 0) (xs ys : List Tag) → Turned xs ys → AllByRecursion P (neighbours xs) → AllByRecursion P (neighbours ys)
turned-all P xs ys h all = ByRecursion-contains P (neighbours ys) (λ n k. ByRecursion-at P (neighbours xs) n all (turned-neighbours ys xs (turned-back xs ys h) n k))

pub turned-each : (P : Tag → Type 0) (xs ys : List Tag) → Turned xs ys → AllByRecursion P xs → AllByRecursion P ys
turned-each P xs ys h all = ByRecursion-contains P ys (λ f k. ByRecursion-at P xs f all (turned-in ys xs (turned-back xs ys h) f k))
