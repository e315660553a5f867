-- What a page replies to a request with its own method, and to one with another method, which it doesn't allow.
use Rattle.std.proofs.Common.{◌≡◌, ℕ, Bool, true, false, cond, List, Some, ap}
use Rattle.std.specs.Prelude.{codes}
use Rattle.std.specs.Str.{bytes_eq}
use Rattle.define_offices.specs.Tables.{Tables}
use Rattle.define_desk.specs.Requests.{Request}
use Rattle.define_desk.specs.Replies.{Reply, not_allowed}
use Rattle.define_desk.specs.Desk.{WithdrawalPage, if_by, leaving, served_page, withdrawal}

pub by_method : (method : List ℕ) (request : Request) (reply : Reply) → bytes_eq request.method method ≡ true → if_by method request reply ≡ reply
by_method method request reply e = ap (λ (b : Bool). cond b reply (not_allowed method)) e

pub by_other : (method : List ℕ) (request : Request) (reply : Reply) → bytes_eq request.method method ≡ false → if_by method request reply ≡ not_allowed method
by_other method request reply e = ap (λ (b : Bool). cond b reply (not_allowed method)) e

pub posted : (tables : Tables) (request : Request) → bytes_eq request.method (codes "POST") ≡ true → served_page tables request (Some WithdrawalPage) ≡ withdrawal tables request.keys
posted tables request e = ap (λ (b : Bool). cond b (withdrawal tables request.keys) (leaving tables (not_allowed (codes "POST")))) e

pub not_posted : (tables : Tables) (request : Request) → bytes_eq request.method (codes "POST") ≡ false → served_page tables request (Some WithdrawalPage) ≡ leaving tables (not_allowed (codes "POST"))
not_posted tables request e = ap (λ (b : Bool). cond b (withdrawal tables request.keys) (leaving tables (not_allowed (codes "POST")))) e
