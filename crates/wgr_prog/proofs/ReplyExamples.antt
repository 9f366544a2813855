-- What replies mean, by computation.
use Rattle.std.proofs.Common.{◌≡◌, [], codes, refl}
use Rattle.std.specs.Fmt.{digits}
use Rattle.wgr_prog.specs.Reply.{Done, Shown, Undone, reply_in}

pub done : reply_in (codes "0 done\n") ≡ Done
unfolding digits
done = refl

pub done_without_newline : reply_in (codes "0 done") ≡ Undone 1
unfolding digits
done_without_newline = refl

pub done_and_more : reply_in (codes "0 done\n0 done\n") ≡ Undone 1
unfolding digits
done_and_more = refl

pub nothing : reply_in [] ≡ Undone 1
unfolding digits
nothing = refl

-- ---- a text

pub shown : reply_in (codes "0 6\na 1\nb\n") ≡ Shown (codes "a 1\nb\n")
unfolding digits
shown = refl

pub shown_of_two_digits : reply_in (codes "0 10\n0123456789") ≡ Shown (codes "0123456789")
unfolding digits
shown_of_two_digits = refl

pub empty_text : reply_in (codes "0 0\n") ≡ Shown []
unfolding digits
empty_text = refl

pub cut_short : reply_in (codes "0 6\na 1\nb") ≡ Undone 1
unfolding digits
cut_short = refl

pub goes_on : reply_in (codes "0 6\na 1\nb\nc") ≡ Undone 1
unfolding digits
goes_on = refl

pub length_alone : reply_in (codes "0 6\n") ≡ Undone 1
unfolding digits
length_alone = refl

pub length_without_newline : reply_in (codes "0 0") ≡ Undone 1
unfolding digits
length_without_newline = refl

pub leading_zero : reply_in (codes "0 01\na") ≡ Undone 1
unfolding digits
leading_zero = refl

pub signed_length : reply_in (codes "0 +1\na") ≡ Undone 1
unfolding digits
signed_length = refl

pub two_blanks : reply_in (codes "0  1\na") ≡ Undone 1
unfolding digits
two_blanks = refl

-- ---- neither

pub refused : reply_in (codes "2 no_such_tenant\n") ≡ Undone 2
unfolding digits
refused = refl

pub failed : reply_in (codes "1 store\n") ≡ Undone 1
unfolding digits
failed = refl

pub refused_without_newline : reply_in (codes "2 name_held") ≡ Undone 1
unfolding digits
refused_without_newline = refl

pub refused_and_more : reply_in (codes "2 name_held\n2 name_held\n") ≡ Undone 1
unfolding digits
refused_and_more = refl

pub other_status : reply_in (codes "3 name_held\n") ≡ Undone 1
unfolding digits
other_status = refl

pub two_digits : reply_in (codes "22 name_held\n") ≡ Undone 1
unfolding digits
two_digits = refl

pub not_done : reply_in (codes "0 don\n") ≡ Undone 1
unfolding digits
not_done = refl

pub bad_tenant : reply_in (codes "2 bad_field tenant\n") ≡ Undone 2
unfolding digits
bad_tenant = refl

pub bad_file : reply_in (codes "2 bad_field file\n") ≡ Undone 2
unfolding digits
bad_file = refl

pub file_exists : reply_in (codes "2 file_exists\n") ≡ Undone 2
unfolding digits
file_exists = refl

pub no_order : reply_in (codes "2 bad_order\n") ≡ Undone 2
unfolding digits
no_order = refl

pub device : reply_in (codes "1 device\n") ≡ Undone 1
unfolding digits
device = refl

pub no_memory : reply_in (codes "1 no_memory\n") ≡ Undone 1
unfolding digits
no_memory = refl
