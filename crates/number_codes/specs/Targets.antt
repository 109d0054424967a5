-- The targets of Cast by number.
use Rattle.std.specs.Prelude.{ℕ, Option, Some, None}
use Rattle.std.proofs.Math.Option as Math
use Rattle.std.proofs.Math.ListN.{get_elem?}
use Rattle.numbers.specs.declared.CastTarget.{CastTarget}
use Rattle.numbers.specs.Casts.{cast_targets}

abbrev pub found_target : Math.Option CastTarget → Option CastTarget
found_target Math.none = None
found_target (Math.some t) = Some t

abbrev pub cast_target_of : ℕ → Option CastTarget
cast_target_of n = found_target (get_elem? cast_targets n)
