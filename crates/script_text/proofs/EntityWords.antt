-- The words of an entity, and how they are read back.
use Rattle.std.proofs.Common.{◌≡◌, ℕ, List, [], ◌∷◌, ◌++◌, ℤ, codes, decimal, refl, ap}
use Rattle.std.specs.Fmt.{signed_decimal}
use Rattle.pk_base.specs.Blocks.{tag}
use Rattle.pk_base.specs.declared.tag.Tag.{Tag}
use Rattle.pk_base.specs.declared.entity.Class.{Class}
use Rattle.pk_base.specs.declared.entity.Class.TheVariants as class
use Rattle.pk_base.specs.declared.entity.Entity.{Entity}
use Rattle.pk_base.specs.declared.entity.Entity.TheVariants.{Body, Shell, Face, Loop, Fin, Edge, Vertex, Attr}
use Rattle.script_text.specs.Printable.{IsTag, IsPrintableEntity}
use Rattle.script_text.specs.Text.{space, entity_fields}
use Rattle.script_text.proofs.Decimals.{number_in, number_in-decimal, integer_in, integer_in-signed}
use Rattle.script_text.proofs.NameWords.{name_in, name_word, spells-name, name_in-word}
use Rattle.script_text.proofs.RefusalWords.{class_in}
use Rattle.script_text.proofs.Spelling.{ToldBehind, fixed, spells-append, spells-number, spells-signed, word_at}
use Rattle.script_text.proofs.TagWords.{optional_in, optional_word, spells-optional, optional_in-word}

abbrev tag_at : List (List ℕ) → ℕ → Tag
tag_at ws k = tag (number_in (word_at ws k))

abbrev integer_at : List (List ℕ) → ℕ → ℤ
integer_at ws k = integer_in (word_at ws k)

abbrev entity_as : Class → List (List ℕ) → Entity
entity_as class.Body ws = Body (tag_at ws 3)
entity_as class.Shell ws = Shell (tag_at ws 3) (integer_at ws 5)
entity_as class.Face ws = Face (tag_at ws 3) (tag_at ws 5)
entity_as class.Loop ws = Loop (tag_at ws 3) (optional_in (word_at ws 5)) (optional_in (word_at ws 7))
entity_as class.Fin ws = Fin (tag_at ws 3) (tag_at ws 5) (tag_at ws 7) (tag_at ws 9) (tag_at ws 11) (tag_at ws 13)
entity_as class.Edge ws = Edge (tag_at ws 3) (tag_at ws 5)
entity_as class.Vertex ws = Vertex (tag_at ws 3) (record { x = integer_at ws 5; y = integer_at ws 6; z = integer_at ws 7 })
entity_as class.Attr ws = Attr (tag_at ws 3) (name_in (word_at ws 5)) (integer_at ws 7)

abbrev pub entity_in : List (List ℕ) → Entity
entity_in ws = entity_as (class_in (word_at ws 1)) ws

tag_back : (t : Tag) → IsTag t → tag (number_in (decimal t.0)) ≡ t
tag_back t h = ap tag (number_in-decimal t.0 h)

abbrev heading : List ℕ → List ℕ → List (List ℕ)
heading name of = codes "is" ∷ name ∷ of ∷ []

abbrev IsTold : Entity → Type 0
IsTold e = ToldBehind (codes "is") (space ++ (codes "is" ++ entity_fields e)) entity_in e

pub entity_told : (e : Entity) → IsPrintableEntity e → IsTold e
entity_told (Body shell) h = record {
  words = heading (codes "body") (codes "shell") ++ decimal shell.0 ∷ [];
  spells = spells-append (fixed (heading (codes "body") (codes "shell")) refl) (spells-number shell.0);
  begins = refl;
  reads = ap Body (tag_back shell h);
}
entity_told (Shell body q) h = record {
  words = heading (codes "shell") (codes "body") ++ decimal body.0 ∷ codes "q" ∷ signed_decimal q ∷ [];
  spells = spells-append (spells-append (spells-append (fixed (heading (codes "shell") (codes "body")) refl) (spells-number body.0))
      (fixed (codes "q" ∷ []) refl)) (spells-signed q);
  begins = refl;
  reads = λ i. Shell (tag_back body h.0 i) (integer_in-signed q h.1 i);
}
entity_told (Face shell outer) h = record {
  words = heading (codes "face") (codes "shell") ++ decimal shell.0 ∷ codes "outer" ∷ decimal outer.0 ∷ [];
  spells = spells-append (spells-append (spells-append (fixed (heading (codes "face") (codes "shell")) refl) (spells-number shell.0))
      (fixed (codes "outer" ∷ []) refl)) (spells-number outer.0);
  begins = refl;
  reads = λ i. Face (tag_back shell h.0 i) (tag_back outer h.1 i);
}
entity_told (Loop face first vertex) h = record {
  words = heading (codes "loop") (codes "face") ++ decimal face.0 ∷ codes "first" ∷ optional_word first ∷ codes "lone" ∷ optional_word vertex ∷ [];
  spells = spells-append (spells-append (spells-append (spells-append (spells-append (fixed (heading (codes "loop") (codes "face")) refl) (spells-number face.0))
      (fixed (codes "first" ∷ []) refl)) (spells-optional first))
      (fixed (codes "lone" ∷ []) refl)) (spells-optional vertex);
  begins = refl;
  reads = λ i. Loop (tag_back face h.0 i) (optional_in-word first h.1 i) (optional_in-word vertex h.2 i);
}
entity_told (Fin loop_ next prev mate edge vertex) h = record {
  words = heading (codes "fin") (codes "loop") ++ decimal loop_.0 ∷ codes "next" ∷ decimal next.0 ∷ codes "prev" ∷ decimal prev.0
      ∷ codes "mate" ∷ decimal mate.0 ∷ codes "edge" ∷ decimal edge.0 ∷ codes "vertex" ∷ decimal vertex.0 ∷ [];
  spells = spells-append (spells-append (spells-append (spells-append (spells-append (spells-append (spells-append (spells-append (spells-append (spells-append (spells-append
      (fixed (heading (codes "fin") (codes "loop")) refl) (spells-number loop_.0))
      (fixed (codes "next" ∷ []) refl)) (spells-number next.0))
      (fixed (codes "prev" ∷ []) refl)) (spells-number prev.0))
      (fixed (codes "mate" ∷ []) refl)) (spells-number mate.0))
      (fixed (codes "edge" ∷ []) refl)) (spells-number edge.0))
      (fixed (codes "vertex" ∷ []) refl)) (spells-number vertex.0);
  begins = refl;
  reads = λ i. Fin (tag_back loop_ h.of_loop i) (tag_back next h.of_next i) (tag_back prev h.of_prev i) (tag_back mate h.of_mate i) (tag_back edge h.of_edge i) (tag_back vertex h.of_vertex i);
}
entity_told (Edge body fin) h = record {
  words = heading (codes "edge") (codes "body") ++ decimal body.0 ∷ codes "fin" ∷ decimal fin.0 ∷ [];
  spells = spells-append (spells-append (spells-append (fixed (heading (codes "edge") (codes "body")) refl) (spells-number body.0))
      (fixed (codes "fin" ∷ []) refl)) (spells-number fin.0);
  begins = refl;
  reads = λ i. Edge (tag_back body h.0 i) (tag_back fin h.1 i);
}
entity_told (Vertex body point) h = record {
  words = heading (codes "vertex") (codes "body") ++ decimal body.0 ∷ codes "at" ∷ signed_decimal point.x ∷ signed_decimal point.y ∷ signed_decimal point.z ∷ [];
  spells = spells-append (spells-append (spells-append (spells-append (spells-append (fixed (heading (codes "vertex") (codes "body")) refl) (spells-number body.0))
      (fixed (codes "at" ∷ []) refl)) (spells-signed point.x)) (spells-signed point.y)) (spells-signed point.z);
  begins = refl;
  reads = λ i. Vertex (tag_back body h.0 i) (record { x = integer_in-signed point.x h.1.x i; y = integer_in-signed point.y h.1.y i; z = integer_in-signed point.z h.1.z i });
}
entity_told (Attr owner name value) h = record {
  words = heading (codes "attr") (codes "owner") ++ decimal owner.0 ∷ codes "name" ∷ name_word name ∷ codes "value" ∷ signed_decimal value ∷ [];
  spells = spells-append (spells-append (spells-append (spells-append (spells-append (fixed (heading (codes "attr") (codes "owner")) refl) (spells-number owner.0))
      (fixed (codes "name" ∷ []) refl)) (spells-name name h.1))
      (fixed (codes "value" ∷ []) refl)) (spells-signed value);
  begins = refl;
  reads = λ i. Attr (tag_back owner h.0 i) (name_in-word name h.1 i) (integer_in-signed value h.2 i);
}
