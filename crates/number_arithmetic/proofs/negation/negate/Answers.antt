-- An integer with a sign by the law of every such kind.
use Rattle.std.proofs.Common.{rules, refl, w8, w16, w32, w64}
use Rattle.numbers.specs.declared.IntKind.TheVariants.{I64, I32, I16, I8}
use Rattle.number_arithmetic.proofs.Checked.{negated}
use Rattle.number_arithmetic.proofs.negation.negate.Goals as goal

pub returns-in-Int : goal.returns-in-Int
returns-in-Int c =
    negated I64 w64 refl refl c.checked_neg.result c.checked_neg.ensures (search rules) c.args.a c.in-Int.is c.map.result c.map.ensures.cases
    c.ok_or.ensures.value

pub returns-in-SInt : goal.returns-in-SInt
returns-in-SInt c =
    negated I32 w32 refl refl c.checked_neg-in-SInt.result c.checked_neg-in-SInt.ensures (search rules) c.args.a c.in-SInt.is c.map-in-SInt.result c.map-in-SInt.ensures.cases
    c.ok_or-in-SInt.ensures.value

pub returns-in-BSByte : goal.returns-in-BSByte
returns-in-BSByte c =
    negated I16 w16 refl refl c.checked_neg-in-BSByte.result c.checked_neg-in-BSByte.ensures (search rules) c.args.a c.in-BSByte.is c.map-in-BSByte.result c.map-in-BSByte.ensures.cases
    c.ok_or-in-BSByte.ensures.value

pub returns-in-SByte : goal.returns-in-SByte
returns-in-SByte c =
    negated I8 w8 refl refl c.checked_neg-in-SByte.result c.checked_neg-in-SByte.ensures (search rules) c.args.a c.in-SByte.is c.map-in-SByte.result c.map-in-SByte.ensures.cases
    c.ok_or-in-SByte.ensures.value
