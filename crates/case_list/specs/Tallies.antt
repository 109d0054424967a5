-- What came of the cases of a list, counted and printed.
use Rattle.std.specs.Prelude.{List, codes, ℕ, ◌+◌, ◌++◌, ◌%◌, ◌^◌}
use Rattle.std.specs.Fmt.{decimal}
use Rattle.case_list.specs.declared.Tally.{Tally}
use Rattle.case_list.specs.declared.Verdict.{Verdict}
use Rattle.case_list.specs.declared.Verdict.TheVariants.{Agrees, Differs, Malformed}

-- with one case more, of which this came
abbrev pub counted : Tally → Verdict → Tally
counted t Agrees = record { cases = (t.cases + 1) % 2 ^ 64; agree = (t.agree + 1) % 2 ^ 64; malformed = t.malformed }
counted t Differs = record { cases = (t.cases + 1) % 2 ^ 64; agree = t.agree; malformed = t.malformed }
counted t Malformed = record { cases = (t.cases + 1) % 2 ^ 64; agree = t.agree; malformed = (t.malformed + 1) % 2 ^ 64 }

-- a line for each number
abbrev pub tally_text : Tally → List ℕ
tally_text t = codes "cases " ++ (decimal t.cases ++ (codes "\nagree " ++ (decimal t.agree ++ (codes "\nmalformed " ++ (decimal t.malformed ++ codes "\n")))))
