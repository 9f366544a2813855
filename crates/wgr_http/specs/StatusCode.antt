-- The status codes of replies and their reasons (RFC 9110 section 15).
use Rattle.std.specs.Prelude.{ℕ, List, codes}
use Rattle.wgr_http.specs.declared.status_code.StatusCode.{StatusCode}
use Rattle.wgr_http.specs.declared.status_code.StatusCode.TheVariants as status

abbrev pub status_number : StatusCode → ℕ
status_number status.Done = 200
status_number status.BadRequest = 400
status_number status.Unauthorized = 401
status_number status.Forbidden = 403
status_number status.NotFound = 404
status_number status.MethodNotAllowed = 405
status_number status.Conflict = 409
status_number status.LengthRequired = 411
status_number status.ContentTooLarge = 413
status_number status.ServiceUnavailable = 503

abbrev pub reason : StatusCode → List ℕ
reason status.Done = codes "OK"
reason status.BadRequest = codes "Bad Request"
reason status.Unauthorized = codes "Unauthorized"
reason status.Forbidden = codes "Forbidden"
reason status.NotFound = codes "Not Found"
reason status.MethodNotAllowed = codes "Method Not Allowed"
reason status.Conflict = codes "Conflict"
reason status.LengthRequired = codes "Length Required"
reason status.ContentTooLarge = codes "Content Too Large"
reason status.ServiceUnavailable = codes "Service Unavailable"
