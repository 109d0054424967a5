-- `number_words::computed` meets its contract: by what the float type says of its operators. Assumes nothing.

use Rattle.number_words.proofs.computed.Goals as goal

pub returns-in-Add : goal.returns-in-Add
returns-in-Add g c = rw c.in-Add.is ((g.met.F.FloatBits.sums c.args.x c.args.y).1 c.add.result c.add.ensures)

pub returns-in-Sub : goal.returns-in-Sub
returns-in-Sub g c = rw c.in-Sub.is ((g.met.F.FloatBits.differences c.args.x c.args.y).1 c.sub.result c.sub.ensures)

pub returns-in-Mul : goal.returns-in-Mul
returns-in-Mul g c = rw c.in-Mul.is ((g.met.F.FloatBits.products c.args.x c.args.y).1 c.mul.result c.mul.ensures)

pub returns-in-Div : goal.returns-in-Div
returns-in-Div g c = rw c.in-Div.is ((g.met.F.FloatBits.quotients c.args.x c.args.y).1 c.div.result c.div.ensures)
