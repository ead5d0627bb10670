-- The words of a refusal, and how they are read back.
use Rattle.std.proofs.Common.{◌≡◌, ℕ, ◌==◌, true, if◌then◌else◌, List, [], ◌∷◌, ◌++◌, ℤ, codes, bytes_eq, decimal, refl, sym, ap, append_assoc, subst}
use Rattle.std.specs.Fmt.{signed_decimal}
use Rattle.pk_base.specs.Blocks.{tag}
use Rattle.pk_base.specs.Entity.{class_word}
use Rattle.pk_base.specs.declared.entity.Class.{Class}
use Rattle.pk_base.specs.declared.entity.Class.TheVariants as class
use Rattle.pk_base.specs.declared.refusal.Refusal.{Refusal}
use Rattle.pk_base.specs.declared.refusal.Refusal.TheVariants.{NoSuchTag, WrongClass, OutOfRange, NotOneLoop, SameVertex, NotStrut, OneLoop, TwoLoops, HasRings, IsOuter, NotOneFace, NotOneBody, NotBare, CornerCount, BadPolygon, FlatSweep, NoAttribute, NotOurs, NotAMark, MarkDeleted, InitialMark, TagsSpent, NoPartition, NotLocked, AlreadyLocked, LockOrder, NoName, SameFace}
use Rattle.script_text.specs.Printable.{IsPrintableRefusal}
use Rattle.script_text.specs.Text.{space, refusal_fields}
use Rattle.script_text.proofs.Decimals.{number_in, number_in-decimal, integer_in, integer_in-signed}
use Rattle.script_text.proofs.Spelling.{Spells, ToldBehind, fixed, spells-append, spells-word, spells-number, spells-signed, is_word, word_at}

-- ---- a class

abbrev pub class_in : List ℕ → Class
class_in w =
    if bytes_eq w (codes "body") then class.Body else (
    if bytes_eq w (codes "shell") then class.Shell else (
    if bytes_eq w (codes "face") then class.Face else (
    if bytes_eq w (codes "loop") then class.Loop else (
    if bytes_eq w (codes "fin") then class.Fin else (
    if bytes_eq w (codes "edge") then class.Edge else (
    if bytes_eq w (codes "vertex") then class.Vertex else (
    class.Attr)))))))

pub class_in-word : (c : Class) → class_in (class_word c) ≡ c
class_in-word class.Body = refl
class_in-word class.Shell = refl
class_in-word class.Face = refl
class_in-word class.Loop = refl
class_in-word class.Fin = refl
class_in-word class.Edge = refl
class_in-word class.Vertex = refl
class_in-word class.Attr = refl

pub class_is_word : (c : Class) → is_word (class_word c) ≡ true
class_is_word class.Body = refl
class_is_word class.Shell = refl
class_is_word class.Face = refl
class_is_word class.Loop = refl
class_is_word class.Fin = refl
class_is_word class.Edge = refl
class_is_word class.Vertex = refl
class_is_word class.Attr = refl

class_behind : {text : List ℕ} {words : List (List ℕ)} → Spells text words → (c : Class) → Spells (text ++ space ++ class_word c) (words ++ class_word c ∷ [])
class_behind {text} {words} p c =
    subst (λ l. Spells l (words ++ class_word c ∷ [])) (sym (append_assoc text space (class_word c))) (spells-append p (spells-word (class_word c) (class_is_word c)))

-- ---- a refusal

-- the refusal of this number, with the fields that it may have
abbrev refusal_of : ℕ → ℕ → ℕ → ℤ → Class → Refusal
refusal_of k a b z c =
    if k == 1 then NoSuchTag (tag a) else (
    if k == 2 then WrongClass (tag a) c else (
    if k == 3 then OutOfRange z else (
    if k == 4 then NotOneLoop (tag a) (tag b) else (
    if k == 5 then SameVertex (tag a) else (
    if k == 6 then NotStrut (tag a) else (
    if k == 7 then OneLoop (tag a) else (
    if k == 8 then TwoLoops (tag a) (tag b) else (
    if k == 9 then HasRings (tag a) else (
    if k == 10 then IsOuter (tag a) else (
    if k == 11 then NotOneFace (tag a) (tag b) else (
    if k == 12 then NotOneBody (tag a) (tag b) else (
    if k == 13 then NotBare (tag a) else (
    if k == 14 then CornerCount a else (
    if k == 15 then BadPolygon a else (
    if k == 16 then FlatSweep else (
    if k == 17 then NoAttribute (tag a) else (
    if k == 18 then NotOurs (tag a) else (
    if k == 19 then NotAMark (tag a) else (
    if k == 20 then MarkDeleted (tag a) else (
    if k == 21 then InitialMark else (
    if k == 22 then TagsSpent a else (
    if k == 23 then NoPartition a else (
    if k == 24 then NotLocked a else (
    if k == 25 then AlreadyLocked a else (
    if k == 26 then LockOrder a else (
    if k == 27 then NoName a else (
    SameFace (tag a))))))))))))))))))))))))))))

abbrev pub refusal_in : List (List ℕ) → Refusal
refusal_in ws = refusal_of (number_in (word_at ws 1)) (number_in (word_at ws 3)) (number_in (word_at ws 4)) (integer_in (word_at ws 3)) (class_in (word_at ws 4))

abbrev heading : List ℕ → List ℕ → List (List ℕ)
heading k name = codes "refused" ∷ k ∷ name ∷ []

abbrev IsTold : Refusal → Type 0
IsTold r = ToldBehind (codes "refused") (space ++ (codes "refused" ++ refusal_fields r)) refusal_in r

pub refusal_told : (r : Refusal) → IsPrintableRefusal r → IsTold r
refusal_told (NoSuchTag t) h = record { words = heading (codes "1") (codes "NoSuchTag") ++ decimal t.0 ∷ []; spells = spells-append (fixed (heading (codes "1") (codes "NoSuchTag")) refl) (spells-number t.0); begins = refl; reads = ap (λ k. NoSuchTag (tag k)) (number_in-decimal t.0 h) }
refusal_told (WrongClass t c) h = record { words = heading (codes "2") (codes "WrongClass") ++ decimal t.0 ∷ class_word c ∷ []; spells = class_behind (spells-append (fixed (heading (codes "2") (codes "WrongClass")) refl) (spells-number t.0)) c; begins = refl; reads = λ i. WrongClass (tag (number_in-decimal t.0 h i)) (class_in-word c i) }
refusal_told (OutOfRange v) h = record { words = heading (codes "3") (codes "OutOfRange") ++ signed_decimal v ∷ []; spells = spells-append (fixed (heading (codes "3") (codes "OutOfRange")) refl) (spells-signed v); begins = refl; reads = ap OutOfRange (integer_in-signed v h) }
refusal_told (NotOneLoop a b) h = record { words = heading (codes "4") (codes "NotOneLoop") ++ decimal a.0 ∷ decimal b.0 ∷ []; spells = spells-append (spells-append (fixed (heading (codes "4") (codes "NotOneLoop")) refl) (spells-number a.0)) (spells-number b.0); begins = refl; reads = λ i. NotOneLoop (tag (number_in-decimal a.0 h.0 i)) (tag (number_in-decimal b.0 h.1 i)) }
refusal_told (SameVertex t) h = record { words = heading (codes "5") (codes "SameVertex") ++ decimal t.0 ∷ []; spells = spells-append (fixed (heading (codes "5") (codes "SameVertex")) refl) (spells-number t.0); begins = refl; reads = ap (λ k. SameVertex (tag k)) (number_in-decimal t.0 h) }
refusal_told (NotStrut t) h = record { words = heading (codes "6") (codes "NotStrut") ++ decimal t.0 ∷ []; spells = spells-append (fixed (heading (codes "6") (codes "NotStrut")) refl) (spells-number t.0); begins = refl; reads = ap (λ k. NotStrut (tag k)) (number_in-decimal t.0 h) }
refusal_told (OneLoop t) h = record { words = heading (codes "7") (codes "OneLoop") ++ decimal t.0 ∷ []; spells = spells-append (fixed (heading (codes "7") (codes "OneLoop")) refl) (spells-number t.0); begins = refl; reads = ap (λ k. OneLoop (tag k)) (number_in-decimal t.0 h) }
refusal_told (TwoLoops a b) h = record { words = heading (codes "8") (codes "TwoLoops") ++ decimal a.0 ∷ decimal b.0 ∷ []; spells = spells-append (spells-append (fixed (heading (codes "8") (codes "TwoLoops")) refl) (spells-number a.0)) (spells-number b.0); begins = refl; reads = λ i. TwoLoops (tag (number_in-decimal a.0 h.0 i)) (tag (number_in-decimal b.0 h.1 i)) }
refusal_told (HasRings t) h = record { words = heading (codes "9") (codes "HasRings") ++ decimal t.0 ∷ []; spells = spells-append (fixed (heading (codes "9") (codes "HasRings")) refl) (spells-number t.0); begins = refl; reads = ap (λ k. HasRings (tag k)) (number_in-decimal t.0 h) }
refusal_told (IsOuter t) h = record { words = heading (codes "10") (codes "IsOuter") ++ decimal t.0 ∷ []; spells = spells-append (fixed (heading (codes "10") (codes "IsOuter")) refl) (spells-number t.0); begins = refl; reads = ap (λ k. IsOuter (tag k)) (number_in-decimal t.0 h) }
refusal_told (NotOneFace a b) h = record { words = heading (codes "11") (codes "NotOneFace") ++ decimal a.0 ∷ decimal b.0 ∷ []; spells = spells-append (spells-append (fixed (heading (codes "11") (codes "NotOneFace")) refl) (spells-number a.0)) (spells-number b.0); begins = refl; reads = λ i. NotOneFace (tag (number_in-decimal a.0 h.0 i)) (tag (number_in-decimal b.0 h.1 i)) }
refusal_told (NotOneBody a b) h = record { words = heading (codes "12") (codes "NotOneBody") ++ decimal a.0 ∷ decimal b.0 ∷ []; spells = spells-append (spells-append (fixed (heading (codes "12") (codes "NotOneBody")) refl) (spells-number a.0)) (spells-number b.0); begins = refl; reads = λ i. NotOneBody (tag (number_in-decimal a.0 h.0 i)) (tag (number_in-decimal b.0 h.1 i)) }
refusal_told (NotBare t) h = record { words = heading (codes "13") (codes "NotBare") ++ decimal t.0 ∷ []; spells = spells-append (fixed (heading (codes "13") (codes "NotBare")) refl) (spells-number t.0); begins = refl; reads = ap (λ k. NotBare (tag k)) (number_in-decimal t.0 h) }
refusal_told (CornerCount n) h = record { words = heading (codes "14") (codes "CornerCount") ++ decimal n ∷ []; spells = spells-append (fixed (heading (codes "14") (codes "CornerCount")) refl) (spells-number n); begins = refl; reads = ap CornerCount (number_in-decimal n h) }
refusal_told (BadPolygon n) h = record { words = heading (codes "15") (codes "BadPolygon") ++ decimal n ∷ []; spells = spells-append (fixed (heading (codes "15") (codes "BadPolygon")) refl) (spells-number n); begins = refl; reads = ap BadPolygon (number_in-decimal n h) }
refusal_told FlatSweep h = record { words = heading (codes "16") (codes "FlatSweep"); spells = fixed (heading (codes "16") (codes "FlatSweep")) refl; begins = refl; reads = refl }
refusal_told (NoAttribute t) h = record { words = heading (codes "17") (codes "NoAttribute") ++ decimal t.0 ∷ []; spells = spells-append (fixed (heading (codes "17") (codes "NoAttribute")) refl) (spells-number t.0); begins = refl; reads = ap (λ k. NoAttribute (tag k)) (number_in-decimal t.0 h) }
refusal_told (NotOurs t) h = record { words = heading (codes "18") (codes "NotOurs") ++ decimal t.0 ∷ []; spells = spells-append (fixed (heading (codes "18") (codes "NotOurs")) refl) (spells-number t.0); begins = refl; reads = ap (λ k. NotOurs (tag k)) (number_in-decimal t.0 h) }
refusal_told (NotAMark t) h = record { words = heading (codes "19") (codes "NotAMark") ++ decimal t.0 ∷ []; spells = spells-append (fixed (heading (codes "19") (codes "NotAMark")) refl) (spells-number t.0); begins = refl; reads = ap (λ k. NotAMark (tag k)) (number_in-decimal t.0 h) }
refusal_told (MarkDeleted t) h = record { words = heading (codes "20") (codes "MarkDeleted") ++ decimal t.0 ∷ []; spells = spells-append (fixed (heading (codes "20") (codes "MarkDeleted")) refl) (spells-number t.0); begins = refl; reads = ap (λ k. MarkDeleted (tag k)) (number_in-decimal t.0 h) }
refusal_told InitialMark h = record { words = heading (codes "21") (codes "InitialMark"); spells = fixed (heading (codes "21") (codes "InitialMark")) refl; begins = refl; reads = refl }
refusal_told (TagsSpent n) h = record { words = heading (codes "22") (codes "TagsSpent") ++ decimal n ∷ []; spells = spells-append (fixed (heading (codes "22") (codes "TagsSpent")) refl) (spells-number n); begins = refl; reads = ap TagsSpent (number_in-decimal n h) }
refusal_told (NoPartition n) h = record { words = heading (codes "23") (codes "NoPartition") ++ decimal n ∷ []; spells = spells-append (fixed (heading (codes "23") (codes "NoPartition")) refl) (spells-number n); begins = refl; reads = ap NoPartition (number_in-decimal n h) }
refusal_told (NotLocked n) h = record { words = heading (codes "24") (codes "NotLocked") ++ decimal n ∷ []; spells = spells-append (fixed (heading (codes "24") (codes "NotLocked")) refl) (spells-number n); begins = refl; reads = ap NotLocked (number_in-decimal n h) }
refusal_told (AlreadyLocked n) h = record { words = heading (codes "25") (codes "AlreadyLocked") ++ decimal n ∷ []; spells = spells-append (fixed (heading (codes "25") (codes "AlreadyLocked")) refl) (spells-number n); begins = refl; reads = ap AlreadyLocked (number_in-decimal n h) }
refusal_told (LockOrder n) h = record { words = heading (codes "26") (codes "LockOrder") ++ decimal n ∷ []; spells = spells-append (fixed (heading (codes "26") (codes "LockOrder")) refl) (spells-number n); begins = refl; reads = ap LockOrder (number_in-decimal n h) }
refusal_told (NoName n) h = record { words = heading (codes "27") (codes "NoName") ++ decimal n ∷ []; spells = spells-append (fixed (heading (codes "27") (codes "NoName")) refl) (spells-number n); begins = refl; reads = ap NoName (number_in-decimal n h) }
refusal_told (SameFace t) h = record { words = heading (codes "28") (codes "SameFace") ++ decimal t.0 ∷ []; spells = spells-append (fixed (heading (codes "28") (codes "SameFace")) refl) (spells-number t.0); begins = refl; reads = ap (λ k. SameFace (tag k)) (number_in-decimal t.0 h) }
