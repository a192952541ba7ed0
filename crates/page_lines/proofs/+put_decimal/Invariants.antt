-- `page_lines::put_decimal` meets its contract, by the two cases of the decimal text: a number below 10 is one store, and for any
-- other the call writes the text of the tenth part, and the last digit is stored where that ends. The measure is the number,
-- whose tenth part is less. Assumes nothing.
use Rattle.page_lines.proofs.+put_decimal.Given as goal

abbrev pub decreases-put_decimal : goal.decreases-put_decimal
decreases-put_decimal l = l.value
