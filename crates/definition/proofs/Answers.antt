-- The worked images, by computation.
use mathlib.Core.Path.{refl}
use lib.Ieee.{of_bits, of_fields, odd, units, to_bits, round, lt, eq, add, sub, sum, mul, div, neg, of_int, to_signed, span, climb, size as digits}
use Rattle.float_bits.specs.Nearest.{nearest_binary32}
use Rattle.numbers.specs.Kinds.{wrapping}
use Rattle.numbers.specs.Arithmetic.{checked, checked_div, negate_of}
use Rattle.numbers.specs.Compare.{integer_order, float_order}
use Rattle.numbers.specs.Casts.{cast_integer, cast_of}
use Rattle.definition.specs.Image.{chunk_at, text_at}
use Rattle.definition.specs.Lines.{
  split,
  digit,
  bytes_of,
  line_of,
  number_from,
  printable,
  text_of,
  chunk_of,
  listed,
  widths,
  width_of,
  scalar,
  allowed,
  constant_of,
  code_line,
  code_of,
  end_of,
  record_of,
  reads,
  load_image,
}
use Rattle.definition.specs.Value.{nest, nest_over, nests}
use Rattle.definition.specs.Constants.{constant_head, constant_at, function_at, str_at}
use Rattle.definition.specs.Table.{op_codes}
use Rattle.definition.specs.Decode.{word, decode, target_at}
use Rattle.definition.specs.Numbers.{arith, compare, negate, cast, invert}
use Rattle.definition.specs.Equality.{equal_heads, equal_to, equal}
use Rattle.definition.specs.KindTest.{value_is_kind}
use Rattle.definition.specs.Arrays.{index, arr_len, arr_set}
use Rattle.definition.specs.Coding.{payload, coded_to, coded}
use Rattle.definition.specs.Step.{
  if_else,
  or_fault,
  taking,
  answer,
  grown,
  define,
  pop_scope,
  branch,
  call,
  propagate,
  capture,
  perform,
  fits,
  bounded,
  kept_starts,
  kept_locals,
  finish_call,
  carry,
  begin,
  budgeted,
  within,
  step_in,
  step,
}
use Rattle.definition.specs.Run.{trace, run_frames, reply}
use Rattle.definition.specs.Answers.{run_answer}
use Rattle.definition.specs.Examples.{table, ExamplesRight}

pub examples_right : ExamplesRight
unfolding of_bits of_fields odd units to_bits round lt eq add sub sum mul div neg of_int to_signed span climb digits nearest_binary32 wrapping checked
    checked_div negate_of integer_order float_order cast_integer cast_of chunk_at text_at split digit bytes_of line_of number_from printable text_of chunk_of
    listed widths width_of scalar allowed constant_of code_line code_of end_of record_of reads load_image nest nest_over nests constant_head constant_at
    function_at str_at op_codes word decode target_at arith compare negate cast invert equal_heads equal_to equal value_is_kind index arr_len arr_set payload
    coded_to coded if_else or_fault taking answer grown define pop_scope branch call propagate capture perform fits bounded kept_starts kept_locals
    finish_call carry begin budgeted within step_in step trace run_frames reply run_answer table
examples_right = refl
