-- What a turn took of the input stands behind what the earlier ones took.
use Rattle.std.proofs.Common.{rules, subst}
use Rattle.std.specs.Io.KnownBytes.{Consumes}
use Rattle.std.proofs.KnownBytes.{Consumes-trans}
use Rattle.image_input.proofs.Parts.{taken_more}
use Rattle.case_list.proofs.read_full.Goals as goal

pub loop-at-preserved : goal.loop-at-preserved
loop-at-preserved g c =
    record {
      within = search rules;
      long = search rules;
      taken = subst (Consumes _ _) (taken_more c.loop-at.at c.in_ok-n.n _ c.loop-at.list c.read.new.buf (search rules) (search rules))
          (Consumes-trans _ _ _ _ _ c.loop-at.invariant.taken (search rules));
    }
