-- SQL's `=` on blobs and on texts, as the model compares bytes.
use Rattle.std.proofs.Common.{◌≡◌, true, ap, ◌∙◌}
use Rattle.std.specs.Ordering.{is_eq}
use Rattle.std.proofs.lemmas.Map.Lookups.{exact_bytes}
use Rattle.sqlite.specs.declared.types.Value.TheVariants.{Text, Blob}
use Rattle.sqlite_value.proofs.OrderLemmas.{value_cmp-Text, value_cmp-Blob}
use Rattle.sqlite.specs.Collation.TheVariants.{Binary}
use Rattle.sqlite.specs.Ops.{binary, is_true}
use Rattle.sqlite_sql.specs.declared.ops.BinaryOp.TheVariants.{Compare}
use Rattle.sqlite_sql.specs.declared.ops.CompareOp.TheVariants.{Eq}
use Rattle.wgr_model.specs.Register.{Bytes, is_same}
use Rattle.wgr_sql.proofs.Values.{is_equal, truth_of}

pub same_blobs : (a b : Bytes) → is_true (binary (Compare Eq Binary) (Blob a) (Blob b)) ≡ is_same a b
unfolding binary is_same
same_blobs a b = truth_of _ ∙ ap is_eq (value_cmp-Blob a b)

pub same_texts : (a b : Bytes) → is_true (binary (Compare Eq Binary) (Text a) (Text b)) ≡ is_same a b
unfolding binary is_same
same_texts a b = truth_of _ ∙ ap is_eq (value_cmp-Text a b)

pub same_is : (a b : Bytes) → is_same a b ≡ true → a ≡ b
unfolding is_same
same_is a b h = exact_bytes a b (is_equal _ h)
