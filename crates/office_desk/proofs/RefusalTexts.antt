-- The bytes of the replies that refuse a request.
use Rattle.std.proofs.Common.{◌≡◌, refl}
use Rattle.std.specs.Prelude.{codes}
use Rattle.std.specs.Fmt.{digits}
use Rattle.define_desk.specs.Replies.{bad_request, not_allowed, not_found, out_of_memory, reply_text, too_large, too_late, unavailable, unknown_key}

pub too_large_text : codes "HTTP/1.1 413 Payload Too Large\r\nContent-Type: application/json\r\nContent-Length: 14\r\nConnection: close\r\n\r\n{\"status\":413}" ≡ reply_text too_large
unfolding digits
too_large_text = refl

pub no_request_text : codes "HTTP/1.1 400 Bad Request\r\nContent-Type: application/json\r\nContent-Length: 14\r\nConnection: close\r\n\r\n{\"status\":400}" ≡ reply_text bad_request
unfolding digits
no_request_text = refl

pub unavailable_text : codes "HTTP/1.1 503 Service Unavailable\r\nContent-Type: application/json\r\nContent-Length: 14\r\nConnection: close\r\n\r\n{\"status\":503}" ≡ reply_text unavailable
unfolding digits
unavailable_text = refl

pub not_found_text : codes "HTTP/1.1 404 Not Found\r\nContent-Type: application/json\r\nContent-Length: 14\r\nConnection: close\r\n\r\n{\"status\":404}" ≡ reply_text not_found
unfolding digits
not_found_text = refl

pub get_only_text : codes "HTTP/1.1 405 Method Not Allowed\r\nContent-Type: application/json\r\nAllow: GET\r\nContent-Length: 14\r\nConnection: close\r\n\r\n{\"status\":405}" ≡ reply_text (not_allowed (codes "GET"))
unfolding digits
get_only_text = refl

pub post_only_text : codes "HTTP/1.1 405 Method Not Allowed\r\nContent-Type: application/json\r\nAllow: POST\r\nContent-Length: 14\r\nConnection: close\r\n\r\n{\"status\":405}" ≡ reply_text (not_allowed (codes "POST"))
unfolding digits
post_only_text = refl

pub unknown_key_text : codes "HTTP/1.1 401 Unauthorized\r\nContent-Type: application/json\r\nWWW-Authenticate: office-key\r\nContent-Length: 14\r\nConnection: close\r\n\r\n{\"status\":401}" ≡ reply_text unknown_key
unfolding digits
unknown_key_text = refl

pub too_late_text : codes "HTTP/1.1 409 Conflict\r\nContent-Type: application/json\r\nContent-Length: 14\r\nConnection: close\r\n\r\n{\"status\":409}" ≡ reply_text too_late
unfolding digits
too_late_text = refl

pub out_of_memory_text : codes "HTTP/1.1 507 Insufficient Storage\r\nContent-Type: application/json\r\nContent-Length: 14\r\nConnection: close\r\n\r\n{\"status\":507}" ≡ reply_text out_of_memory
unfolding digits
out_of_memory_text = refl
