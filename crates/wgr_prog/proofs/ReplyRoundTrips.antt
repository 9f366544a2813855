-- What a service answers to an order or a reading, as a client reads it.
use Rattle.std.proofs.Common.{◌≡◌, ◌==◌, ◌&&◌, ◌++◌, ℕ, Bool, true, false, List, [], ◌∷◌, None, Some, Ok, Err, codes, refl, ap, ◌∙◌, append-nil, arith, string_bytes}
use Rattle.std.specs.Fmt.{digits}
use Rattle.std.specs.List.{list_all}
use Rattle.std.proofs.lemmas.Bool.Decides.{nat_tests}
use Rattle.wgr_orders.specs.declared.refusal.OrderRefusal.TheVariants as refusal
use Rattle.wgr_peers.specs.Name.{is_name, is_name_byte}
use Rattle.wgr_register.specs.declared.fault.OrderFault.TheVariants as order_fault
use Rattle.wgr_service.specs.declared.lines.LineEnd.TheVariants as line_end
use Rattle.wgr_service.specs.declared.readings.ReadingEnd.TheVariants as reading_end
use Rattle.wgr_sql.specs.declared.fault.Fault.TheVariants as fault
use Rattle.wgr_words.specs.Line.{before_newline}
use Rattle.wgr_words.specs.Words.{word_field_name}
use Rattle.wgr_words.specs.declared.field.WordField.{WordField}
use Rattle.wgr_words.specs.declared.field.WordField.TheVariants as of
use Rattle.wgr_words.specs.declared.line.LineFault.TheVariants as line_fault
use Rattle.wgr_words.proofs.LineLemmas.{both_none, onwards}
use Rattle.wgr_prog.specs.Laws.{OrdersAreRead, ReadingsAreRead}
use Rattle.wgr_prog.specs.Reply.{Undone, reply_in}
use Rattle.wgr_prog.proofs.ReplyLaws.{behind, read}

-- ---- names have no newline

name_byte : (b : ℕ) → is_name_byte b ≡ true → (b == 10) ≡ false
name_byte b is = grind (arith, nat_tests, is)

both : (a b : Bool) → (a && b) ≡ true → (a ≡ true) × (b ≡ true)
both true true is = (refl, refl)
both true false is = cc is
both false b is = cc is

bytes_free : (text : List ℕ) → list_all is_name_byte text ≡ true → before_newline text ≡ None
bytes_free [] is = refl
bytes_free (b ∷ text) is =
    let parts = both (is_name_byte b) (list_all is_name_byte text) is in
    rw (name_byte b parts.0, bytes_free text parts.1) refl

name_free : (text : List ℕ) → is_name text ≡ true → before_newline text ≡ None
name_free text is = bytes_free text (both _ (list_all is_name_byte text) is).1

-- ---- a refusal

refused_line : (text : List ℕ) → before_newline text ≡ None → reply_in (50 ∷ 32 ∷ (text ++ 10 ∷ [])) ≡ Undone 2
refused_line text none =
    let line = 50 ∷ 32 ∷ text in
    let free : before_newline line ≡ None = rw none refl in
    let first : before_newline (line ++ 10 ∷ []) ≡ Some line = onwards line (10 ∷ []) free ∙ ap Some (append-nil line) in
    rw (first, behind line [] free) refl

overlap : (tenant network : List ℕ) → is_name tenant ≡ true → is_name network ≡ true → before_newline (codes "pool_overlaps " ++ tenant ++ codes " " ++ network) ≡ None
overlap tenant network one other =
    let first = both_none (codes "pool_overlaps ") tenant refl (name_free tenant one) in
    both_none (codes "pool_overlaps " ++ tenant ++ codes " ") network (both_none (codes "pool_overlaps " ++ tenant) (codes " ") first refl) (name_free network other)

field : (f : WordField) → before_newline (word_field_name f) ≡ None
field of.Tenant = refl
field of.Name = refl
field of.Pool = refl
field of.Host = refl
field of.Port = refl
field of.Key = refl
field of.Capacity = refl
field of.HostPort = refl
field of.Count = refl
field of.Now = refl
field of.Digest = refl
field of.Token = refl
field of.Right = refl

-- ---- each reply

pub orders : OrdersAreRead
unfolding digits
orders (line_end.Ended (Ok done)) names = refl
orders (line_end.Ended (Err (order_fault.Refused refusal.NameHeld))) names = refused_line (codes "name_held") refl
orders (line_end.Ended (Err (order_fault.Refused refusal.NoSuchTenant))) names = refused_line (codes "no_such_tenant") refl
orders (line_end.Ended (Err (order_fault.Refused refusal.DigestHeld))) names = refused_line (codes "digest_held") refl
orders (line_end.Ended (Err (order_fault.Refused refusal.BadPool))) names = refused_line (codes "bad_pool") refl
orders (line_end.Ended (Err (order_fault.Refused refusal.PortHeld))) names = refused_line (codes "port_held") refl
orders (line_end.Ended (Err (order_fault.Refused refusal.NoSuchToken))) names = refused_line (codes "no_such_token") refl
orders (line_end.Ended (Err (order_fault.Refused refusal.NoNetwork))) names = refused_line (codes "no_network") refl
orders (line_end.Ended (Err (order_fault.Refused refusal.RegisterFull))) names = refused_line (codes "register_full") refl
orders (line_end.Ended (Err (order_fault.Refused (refusal.PoolOverlaps tenant network)))) names =
    refused_line (codes "pool_overlaps " ++ string_bytes tenant ++ codes " " ++ string_bytes network) (overlap (string_bytes tenant) (string_bytes network) names.0 names.1)
orders (line_end.Ended (Err (order_fault.Fault fault.NoMemory))) names = refl
orders (line_end.Ended (Err (order_fault.Fault (fault.Store cause)))) names = refl
orders (line_end.Unspelled line_fault.NoOrder) names = refl
orders (line_end.Unspelled (line_fault.Field f)) names = refused_line (codes "bad_field " ++ word_field_name f) (both_none (codes "bad_field ") (word_field_name f) refl (field f))
orders (line_end.Unspelled line_fault.NoMemory) names = refl

pub readings : ReadingsAreRead
unfolding digits
readings (reading_end.Shown text) small = read text.items small
readings reading_end.Copied small = refl
readings reading_end.BadTenant small = refused_line (codes "bad_field tenant") refl
readings reading_end.NoSuchTenant small = refused_line (codes "no_such_tenant") refl
readings reading_end.BadFile small = refused_line (codes "bad_field file") refl
readings reading_end.FileExists small = refused_line (codes "file_exists") refl
readings reading_end.Device small = refl
readings (reading_end.Fault fault.NoMemory) small = refl
readings (reading_end.Fault (fault.Store cause)) small = refl
