-- What a call that moves or turns a body leaves of a shape.
use Rattle.std.specs.Prelude.{◌≡◌, ◌≢◌, Some}
use Rattle.pk_base.specs.declared.tag.Tag.{Tag}
use Rattle.pk_base.specs.declared.entity.Point.{Point}
use Rattle.solid_model.specs.Items.{Shape, item_at}
use Rattle.solid_model.specs.Items.Item.{Vertex}

-- Each vertex of the body b stands at its new point, and every other item is as it was.
pub record ChangesPoints (motion : Point → Point) (b : Tag) (S R : Shape) : Type 0 where
  pub points : (v : Tag) (p : Point) → item_at S v ≡ Some (Vertex b p)
      → item_at R v ≡ Some (Vertex b (motion p))
  pub others : (t : Tag) → ((p : Point) → item_at S t ≢ Some (Vertex b p))
      → item_at R t ≡ item_at S t
