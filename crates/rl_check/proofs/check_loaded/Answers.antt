-- `check_image` asks for what is ready (`lent`); its pass and its fault are passed on.

use Rattle.rl_check.proofs.Checking.{lent, passes_judged, fault_judged}
use Rattle.rl_check.proofs.check_loaded.Goals as goal

pub check_image-requires : goal.check_image-requires
check_image-requires c = lent c.args.image c.requires

pub returns-in-Ok : goal.returns-in-Ok
returns-in-Ok c = passes_judged c.args.image c.check_image.result c.in-Ok.is c.check_image.ensures.answer

pub returns-in-Err : goal.returns-in-Err
returns-in-Err c = fault_judged c.args.image c.check_image.result _ c.in-Err.is c.check_image.ensures.answer
