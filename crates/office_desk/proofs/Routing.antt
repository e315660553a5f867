-- The page of a path by the routes of the desk.
use Rattle.std.proofs.Common.{◌≡◌, ℕ, ◌++◌, inl, inr, Bool, true, false, cond, ◌&&◌, ◌+◌, ◌-◌, ◌<◌, ◌≤◌, leb, ltb, List, [], ◌∷◌, drop, length, take, take_all, Some, None, refl, sym, subst, ap, ◌∙◌, arith, lit<, slice_index, zero, suc}
use Rattle.std.specs.Prelude.{bytes_eq, codes, option_and_then, unwrap_or}
use Rattle.std.specs.Str.{IsUtf8}
use Rattle.std.specs.List.{list_all}
use Rattle.std.proofs.lemmas.Bool.{and_parts, le-leb, lt-ltb}
use Rattle.std.proofs.lemmas.Str.{IsCharBoundary-after_ascii, IsUtf8-drop, IsUtf8-from_ascii}
use Rattle.std.proofs.lemmas.Slice.Eq.{bytes_eq-Decides}
use Rattle.std.proofs.lemmas.List.{length-append, take-append-drop}
use Rattle.matchit.specs.Params.{AllText, named, part_of, walk, wild_from, wild_stop}
use Rattle.matchit.specs.Router.{RouteOf}
use Rattle.matchit.specs.Rows.{catch_all_token, param_token}
use Rattle.matchit.specs.Seek.{first, param_step, seek}
use Rattle.define_desk.specs.Desk.{BundlePage, DrawPage, OwnPage, SeatPage, WithdrawalPage, page_of, round_page}
use Rattle.office_desk.specs.Pages.{seen_page}
use Rattle.office_desk.specs.Routes.{desk_routes, page_on, round_row}
use Rattle.office_desk.specs.declared.routes.Route.{Route}
use Rattle.office_desk.specs.declared.routes.Route.TheVariants.{Bundle, Draw, Seat, Standing, Withdrawal}
use Rattle.office_desk.proofs.Matching.{BeginsWith, HasTaker, along, any_rest, taken_path, taken_rest, taker}

abbrev pub bundle_route : RouteOf Route
bundle_route = (round_row (codes "/public/bundle/") (17, 22) Bundle).1

abbrev pub draw_route : RouteOf Route
draw_route = (round_row (codes "/public/draw/") (15, 20) Draw).1

-- ---- a path that is matched

-- what the path is, if the route with this value is found for it
abbrev pub LeadsTo : List ℕ → RouteOf Route → Route → Type 0
LeadsTo path found Standing = path ≡ codes "/me"
LeadsTo path found Seat = path ≡ codes "/me/seat"
LeadsTo path found Withdrawal = path ≡ codes "/me/withdraw"
LeadsTo path found Bundle = BeginsWith (codes "/public/bundle/") path × (found ≡ bundle_route)
LeadsTo path found Draw = BeginsWith (codes "/public/draw/") path × (found ≡ draw_route)

pub leads : (path : List ℕ) (found : RouteOf Route) → first desk_routes path ≡ Some found → LeadsTo path found found.value
leads path found e = by (taker path desk_routes found refl e)
  where
    lead_as : (row : RouteOf Route) → found ≡ row → LeadsTo path row row.value → LeadsTo path found found.value
    lead_as row is leads = subst (λ (it : RouteOf Route). LeadsTo path it it.value) (sym is) leads

    by : HasTaker desk_routes path found → LeadsTo path found found.value
    by (inl (h, is)) = lead_as _ is (taken_path (codes "/me/seat") path refl h)
    by (inr (inl (h, is))) = lead_as _ is (taken_path (codes "/me/withdraw") path refl h)
    by (inr (inr (inl (h, is)))) = lead_as _ is (taken_path (codes "/me") path refl h)
    by (inr (inr (inr (inl (h, is))))) = lead_as bundle_route is (taken_rest (codes "/public/bundle/") path refl h, refl)
    by (inr (inr (inr (inr (inl (h, is)))))) = lead_as draw_route is (taken_rest (codes "/public/draw/") path refl h, refl)
    by (inr (inr (inr (inr (inr never))))) = absurd never

-- ---- what the parameter is

-- the parameter begins behind the front's tokens
past_front : (front : List ℕ) (size token at : ℕ) → list_all (λ x. ltb x param_token) front ≡ true → at + length front ≤ size →
    wild_from (front ++ catch_all_token ∷ []) size token at ≡ (token + length front, at + length front)
past_front [] size token at bytes room =
    let first : token ≡ token + 0 = omega arith in
    let second : at ≡ at + 0 = omega arith in
    ap (λ (n : ℕ). (n, at)) first ∙ ap (λ (n : ℕ). (token + 0, n)) second
past_front (x ∷ front) size token at bytes room =
    let parts = and_parts (ltb x param_token) (list_all (λ y. ltb y param_token) front) bytes in
    let inside : at < size = omega arith in
    let first : token + 1 + length front ≡ token + suc (length front) = omega arith in
    let second : at + 1 + length front ≡ at + suc (length front) = omega arith in
    rw (parts.0, lt-ltb at size inside) (past_front front size (token + 1) (at + 1) parts.1 (omega arith)
    ∙ (ap (λ (n : ℕ). (n, at + 1 + length front)) first ∙ ap (λ (n : ℕ). (token + suc (length front), n)) second))

-- from there it has the rest of the path
whole : (n size : ℕ) (rest : List ℕ) → size ≡ n + length rest → cond (leb n size && leb size size) (take (size - n) rest) [] ≡ rest
whole n size rest e =
    let left : size - n ≡ length rest = omega (arith, e) in
    rw (le-leb n size (omega (arith, e)), le-leb size size (omega arith), left) (take_all (length rest) rest (omega arith))

pub bundle_rest : (rest : List ℕ) → walk bundle_route.pattern bundle_route.text (codes "/public/bundle/" ++ rest) bundle_route.names 0 0 ≡ (codes "round", rest) ∷ []
bundle_rest rest =
    let path = codes "/public/bundle/" ++ rest in
    let size : length path ≡ 15 + length rest = length-append (codes "/public/bundle/") rest in
    ap (λ (at : ℕ × ℕ). (codes "round", part_of path at.1 (wild_stop bundle_route.pattern at.0 path at.1)) ∷ []) (past_front (codes "/public/bundle/") (length path) 0 0 refl (omega (arith, size)))
    ∙ ap (λ (text : List ℕ). (codes "round", text) ∷ []) (whole 15 (length path) rest size)

pub draw_rest : (rest : List ℕ) → walk draw_route.pattern draw_route.text (codes "/public/draw/" ++ rest) draw_route.names 0 0 ≡ (codes "round", rest) ∷ []
draw_rest rest =
    let path = codes "/public/draw/" ++ rest in
    let size : length path ≡ 13 + length rest = length-append (codes "/public/draw/") rest in
    ap (λ (at : ℕ × ℕ). (codes "round", part_of path at.1 (wild_stop draw_route.pattern at.0 path at.1)) ∷ []) (past_front (codes "/public/draw/") (length path) 0 0 refl (omega (arith, size)))
    ∙ ap (λ (text : List ℕ). (codes "round", text) ∷ []) (whole 13 (length path) rest size)

-- what follows the front of a text is a text
after_bundle : (rest : List ℕ) → IsUtf8 (codes "/public/bundle/" ++ rest) → IsUtf8 rest
after_bundle rest text = IsUtf8-drop (codes "/public/bundle/" ++ rest) 15 text (IsCharBoundary-after_ascii (codes "/public/bundle/" ++ rest) 14 text (omega arith) (lit< tt))

after_draw : (rest : List ℕ) → IsUtf8 (codes "/public/draw/" ++ rest) → IsUtf8 rest
after_draw rest text = IsUtf8-drop (codes "/public/draw/" ++ rest) 13 text (IsCharBoundary-after_ascii (codes "/public/draw/" ++ rest) 12 text (omega arith) (lit< tt))

round_is_ascii : (i : ℕ) → slice_index (codes "round") i < 128
round_is_ascii zero = lit< tt
round_is_ascii (suc zero) = lit< tt
round_is_ascii (suc (suc zero)) = lit< tt
round_is_ascii (suc (suc (suc zero))) = lit< tt
round_is_ascii (suc (suc (suc (suc zero)))) = lit< tt
round_is_ascii (suc (suc (suc (suc (suc i))))) = lit< tt

round_text : IsUtf8 (codes "round")
round_text = IsUtf8-from_ascii (codes "round") round_is_ascii

-- ---- the page of a route that is found

module _ (path : List ℕ) (found : RouteOf Route) (round : List ℕ) (text : IsUtf8 path)
    (read : AllText (walk found.pattern found.text path found.names 0 0) → round ≡ unwrap_or (named (codes "round") (walk found.pattern found.text path found.names 0 0)) []) where
  -- the parameter took what follows the front of the path
  round_is : (rest : List ℕ) → IsUtf8 rest → walk found.pattern found.text path found.names 0 0 ≡ (codes "round", rest) ∷ [] → round ≡ rest
  round_is rest ok parts =
      read (subst AllText (sym parts) (round_text, ok, tt)) ∙ ap (λ (all : List (List ℕ × List ℕ)). unwrap_or (named (codes "round") all) []) parts

  shown_by : (route : Route) → LeadsTo path found route → page_on route round ≡ option_and_then seen_page (page_of path)
  shown_by Standing is = ap (λ (p : List ℕ). option_and_then seen_page (page_of p)) (sym is)
  shown_by Seat is = ap (λ (p : List ℕ). option_and_then seen_page (page_of p)) (sym is)
  shown_by Withdrawal is = ap (λ (p : List ℕ). option_and_then seen_page (page_of p)) (sym is)
  shown_by Bundle (begins, is) =
      let rest = begins.rest in
      let parts = ap (λ (it : RouteOf Route). walk it.pattern it.text path it.names 0 0) is ∙ (ap (λ (p : List ℕ). walk bundle_route.pattern bundle_route.text p bundle_route.names 0 0) begins.is ∙ bundle_rest rest) in
      ap (λ (r : List ℕ). page_on Bundle r) (round_is rest (after_bundle rest (subst IsUtf8 begins.is text)) parts)
      ∙ ap (λ (p : List ℕ). option_and_then seen_page (page_of p)) (sym begins.is)
  shown_by Draw (begins, is) =
      let rest = begins.rest in
      let parts = ap (λ (it : RouteOf Route). walk it.pattern it.text path it.names 0 0) is ∙ (ap (λ (p : List ℕ). walk draw_route.pattern draw_route.text p draw_route.names 0 0) begins.is ∙ draw_rest rest) in
      ap (λ (r : List ℕ). page_on Draw r) (round_is rest (after_draw rest (subst IsUtf8 begins.is text)) parts)
      ∙ ap (λ (p : List ℕ). option_and_then seen_page (page_of p)) (sym begins.is)

  pub shown : first desk_routes path ≡ Some found → page_on found.value round ≡ option_and_then seen_page (page_of path)
  shown e = shown_by found.value (leads path found e)

-- ---- a path that isn't matched

is_found : (path : List ℕ) (found : RouteOf Route) → first desk_routes path ≡ None → first desk_routes path ≡ Some found → ⊥
is_found path found none some = cc

module _ (path : List ℕ) (none : first desk_routes path ≡ None) where
  not_path : (literal : List ℕ) (found : RouteOf Route) → first desk_routes literal ≡ Some found → bytes_eq path literal ≡ true → ⊥
  not_path literal found is same = is_found path found none (ap (first desk_routes) ((bytes_eq-Decides path literal).0 same) ∙ is)

  bundle_missed : (rest : List ℕ) → path ≡ codes "/public/bundle/" ++ rest → option_and_then seen_page (Some (BundlePage rest)) ≡ None
  bundle_missed [] is = refl
  bundle_missed (b ∷ rest) is =
      absurd (is_found path bundle_route none (ap (first desk_routes) is ∙ (along (codes "/public/bundle/") (b ∷ rest) desk_routes refl refl ∙ any_rest b rest bundle_route)))

  draw_missed : (rest : List ℕ) → path ≡ codes "/public/draw/" ++ rest → option_and_then seen_page (Some (DrawPage rest)) ≡ None
  draw_missed [] is = refl
  draw_missed (b ∷ rest) is =
      absurd (is_found path draw_route none (ap (first desk_routes) is ∙ (along (codes "/public/draw/") (b ∷ rest) desk_routes refl refl ∙ any_rest b rest draw_route)))

  begun : (front : List ℕ) → bytes_eq (take (length front) path) front ≡ true → path ≡ front ++ drop (length front) path
  begun front e = sym (take-append-drop (length front) path) ∙ ap (λ (all : List ℕ). all ++ drop (length front) path) ((bytes_eq-Decides (take (length front) path) front).0 e)

  pub missed : option_and_then seen_page (page_of path) ≡ None
  unfolding seek param_step
  missed =
      by (bytes_eq path (codes "/me")) (bytes_eq path (codes "/me/seat")) (bytes_eq path (codes "/me/withdraw")) (bytes_eq (take 15 path) (codes "/public/bundle/"))
      (bytes_eq (take 13 path) (codes "/public/draw/")) refl refl refl refl refl
    where
      by : (me seat withdraw bundle draw : Bool) → bytes_eq path (codes "/me") ≡ me → bytes_eq path (codes "/me/seat") ≡ seat → bytes_eq path (codes "/me/withdraw") ≡ withdraw →
          bytes_eq (take 15 path) (codes "/public/bundle/") ≡ bundle → bytes_eq (take 13 path) (codes "/public/draw/") ≡ draw →
          option_and_then seen_page (cond me (Some OwnPage) (cond seat (Some SeatPage) (cond withdraw (Some WithdrawalPage)
          (round_page (cond bundle (Some (drop 15 path)) None) (cond draw (Some (drop 13 path)) None))))) ≡ None
      by true s w b d m _ _ _ _ = absurd (not_path (codes "/me") _ refl m)
      by false true w b d _ s _ _ _ = absurd (not_path (codes "/me/seat") _ refl s)
      by false false true b d _ _ w _ _ = absurd (not_path (codes "/me/withdraw") _ refl w)
      by false false false true d _ _ _ b _ = bundle_missed (drop 15 path) (begun (codes "/public/bundle/") b)
      by false false false false true _ _ _ _ d = draw_missed (drop 13 path) (begun (codes "/public/draw/") d)
      by false false false false false _ _ _ _ _ = refl
