use Rattle.std.proofs.Common.{refl}
use Rattle.des_core.specs.Bits.{bits_of, number_of, number_from}
use Rattle.pad_words.specs.Bytes.{exclusive_or}
use Rattle.des_core.specs.Des.{des_number, des, output_block, preoutput, bits_by_table, after_rounds, cipher_function, selections, selection, row_of, column_of, round_keys, round_keys_from, left_rotation}
use Rattle.des_core.proofs.laws.known_answers.Goals as goal

pub returns-clause-worked_example : goal.returns-clause-worked_example
unfolding des_number des output_block preoutput bits_by_table after_rounds cipher_function selections selection row_of column_of round_keys round_keys_from left_rotation bits_of exclusive_or number_of number_from
returns-clause-worked_example c = refl

pub returns-clause-answer_of_zeros : goal.returns-clause-answer_of_zeros
unfolding des_number des output_block preoutput bits_by_table after_rounds cipher_function selections selection row_of column_of round_keys round_keys_from left_rotation bits_of exclusive_or number_of number_from
returns-clause-answer_of_zeros c = refl

pub returns-clause-key_and_block_of_zeros : goal.returns-clause-key_and_block_of_zeros
unfolding des_number des output_block preoutput bits_by_table after_rounds cipher_function selections selection row_of column_of round_keys round_keys_from left_rotation bits_of exclusive_or number_of number_from
returns-clause-key_and_block_of_zeros c = refl

pub returns-clause-text_of_fips_81 : goal.returns-clause-text_of_fips_81
unfolding des_number des output_block preoutput bits_by_table after_rounds cipher_function selections selection row_of column_of round_keys round_keys_from left_rotation bits_of exclusive_or number_of number_from
returns-clause-text_of_fips_81 c = refl
