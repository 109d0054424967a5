-- The f32 nearest to an f64.
use Rattle.std.specs.Prelude.{◌*◌, Float}
use Rattle.std.specs.Float.{nan, inf, fin, binary32}
use Rattle.std.specs.Float.Ieee.{up, down, round}

-- x rounded once to binary32, to nearest even: subnormal results and overflow to an infinity included
unfoldable pub nearest_binary32 : Float → Float
nearest_binary32 nan = nan
nearest_binary32 (inf s) = inf s
nearest_binary32 (fin s m e) = round binary32 s (m * up e) (down e)
