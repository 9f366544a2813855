-- The names of fields.
use Rattle.std.specs.Prelude.{ℕ, List, codes}
use Rattle.wgr_request.specs.declared.fault.RequestField.{RequestField}
use Rattle.wgr_request.specs.declared.fault.RequestField.TheVariants as field

abbrev pub field_name : RequestField → List ℕ
field_name field.Body = codes "body"
field_name field.Key = codes "key"
field_name field.Label = codes "label"
field_name field.Address = codes "address"
field_name field.End = codes "end"
field_name field.Keepalive = codes "keepalive"
field_name field.Prefix = codes "prefix"
