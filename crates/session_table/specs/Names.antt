-- The name of a session, by which values are told to be of one.
use Rattle.std.specs.Prelude.{refl}
use Rattle.std.specs.Coded.{Coded, code_by, coded×}
use Rattle.atomic_table.specs.Seated.{TableId, table_id_coded}
use Rattle.session_table.specs.contracts.view.Bounds as bounds
use Rattle.session_table.specs.declared.view.Bounds.{Bounds}

-- which table it is, which no other session has, and its bounds
pub record SessionName : Type 0 where
  pub table : TableId
  pub bounds : Bounds

abbrev pub name_code : Coded SessionName
name_code =
    code_by (TableId × Bounds) (coded× table_id_coded bounds.the_row.coded)
    (λ n. (n.table, n.bounds)) (λ p. record { table = p.0; bounds = p.1 }) (λ _. refl)
