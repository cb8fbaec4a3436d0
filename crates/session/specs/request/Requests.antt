-- What a line asks for, as the rules see it.
use Rattle.std.specs.Prelude.{Option, Some, None}
use Rattle.rules.specs.Ring.{capacity}
use Rattle.rules.specs.Device.{level, poll, read, write, drain}
use Rattle.calls.specs.Calls.{pass, input_call, access_call}
use Rattle.sessions.specs.Session.{Line, asks, unknown, session_base, session_size}
use Rattle.session.specs.declared.request.Request.{Request}
use Rattle.session.specs.declared.request.Request.TheVariants as request

abbrev pub request_view : Option Request → Line
request_view (Some (request.Level n b)) = asks (input_call n (level n b))
request_view (Some (request.Poll n)) = asks (input_call n (poll n))
request_view (Some (request.Read w a)) = asks (access_call session_base session_size a w read)
request_view (Some (request.Write w a v)) = asks (access_call session_base session_size a w (λ w o. write w o v))
request_view (Some request.Drain) = asks (pass (drain capacity))
request_view None = unknown
