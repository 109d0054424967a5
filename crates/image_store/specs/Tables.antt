-- The tables that records go to.
use Rattle.std.specs.Prelude.{◌≡◌}
use Rattle.image_store.specs.declared.Tables.{Tables}

-- they are the slices that they were, so that who lent them knows what they hold afterwards
pub record SameTables (t t' : Tables) : Type 0 where
  pub ends : t'.ends.ghost_name ≡ t.ends.ghost_name
  pub kinds : t'.kinds.ghost_name ≡ t.kinds.ghost_name
  pub payloads : t'.payloads.ghost_name ≡ t.payloads.ghost_name
  pub table : t'.table.ghost_name ≡ t.table.ghost_name
