-- `text::Page::put_digits` ends: each call has one digit less.
use Rattle.text.proofs.Page.+put_digits.Given as goal

abbrev pub decreases-put_digits : goal.decreases-put_digits
decreases-put_digits l = l.n
