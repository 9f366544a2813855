-- The status of an answer, by computation.
use Rattle.std.proofs.Common.{◌≡◌, refl}
use Rattle.std.specs.Prelude.{Some}
use Rattle.wgr_http.specs.declared.status_code.StatusCode.TheVariants.{ServiceUnavailable}
use Rattle.wgr_office.specs.Serving.{status_of}
use Rattle.wgr_office.specs.declared.answer.Answer.TheVariants as givens

unavailable_is_503 : status_of givens.Unavailable ≡ Some ServiceUnavailable
unavailable_is_503 = refl
