-- The bytes of a reply with the status 200.
use Rattle.std.proofs.Common.{◌≡◌, List, ℕ, [], ◌∷◌, ◌++◌, append_assoc, sym, ◌∙◌}
use Rattle.std.specs.Prelude.{codes}
use Rattle.std.specs.List.{flat_map}
use Rattle.define_desk.specs.Replies.{field_text, line_end}

pushed : (line a media b size t body : List ℕ) → (((((line ++ a) ++ media) ++ b) ++ size) ++ t) ++ body ≡ line ++ (a ++ (media ++ (b ++ (size ++ (t ++ body)))))
pushed line a media b size t body = simp append_assoc

joined : (line a media end b size c body : List ℕ) → line ++ (((a ++ media) ++ end) ++ (((b ++ size) ++ end) ++ c)) ++ end ++ body ≡ line ++ (a ++ (media ++ (end ++ (b ++ (size ++ (end ++ (c ++ (end ++ body))))))))
joined line a media end b size c body = simp append_assoc

pub told_bytes : (line media size body : List ℕ) →
    (((((line ++ codes "Content-Type: ") ++ media) ++ codes "\r\nContent-Length: ") ++ size) ++ codes "\r\nConnection: close\r\n\r\n") ++ body
    ≡ line ++ flat_map field_text ((codes "Content-Type", media) ∷ [] ++ (codes "Content-Length", size) ∷ (codes "Connection", codes "close") ∷ []) ++ line_end ++ body
told_bytes line media size body =
    pushed line (codes "Content-Type: ") media (codes "\r\nContent-Length: ") size (codes "\r\nConnection: close\r\n\r\n") body
    ∙ sym (joined line (codes "Content-Type: ") media line_end (codes "Content-Length: ") size (codes "Connection: close\r\n") body)
