-- A case is what the list begins with (`cut_twice`), and the line of its answer the first (`first_behind`).
use Rattle.std.proofs.Common.{rules}
use Rattle.case_list.proofs.Lists.{cut_twice, first_behind}
use Rattle.case_list.proofs.CasesIterator.next.Goals as goal

pub returns-clause-steps : goal.returns-clause-steps
returns-clause-steps c =
    let l = c.args.self.now.list.now in
    let cut = cut_twice l c.answer_at-at.result c.line_end-end.result c.after.result (search rules) (search rules) (search rules) in
    (cut.0, cut.1, first_behind c.args.self.now l c.answer_at-at.result c.answer_at-at.ensures.within c.answer_at-at.ensures.first, search rules)
