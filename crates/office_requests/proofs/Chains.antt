-- Reads that follow one another. `left` and `reads` are what a link tells: the bytes that are left, and the count of its reads.
use Rattle.std.proofs.Common.{◌≡◌, ◌≢◌, ℕ, ◌<◌, ◌≤◌, List, [], ◌∷◌, ◌++◌, length, take, Option, refl, sym, ap, subst, ◌∙◌, append-nil, append_assoc, arith}
use Rattle.std.specs.Io.KnownBytes.{Consumes, Keeps}
use Rattle.std.proofs.KnownBytes.{Consumes-kept, Consumes-nil}
use Rattle.std.proofs.lemmas.List.{length-take-le}
use Rattle.outside.specs.Faults.{raised}
use Rattle.office_requests.specs.Needs.{AreReads, ComeWhile, ReadsWhile}

-- as `AreReads`, and each read gave something
abbrev pub AreFull : {L : Type 0} → (L → Option (List ℕ)) → (L → ℕ) → (List ℕ → Type 0) → L → List ℕ → List L → L → List ℕ → Type 0
AreFull left reads Lacks link sofar [] last all = (left last ≡ left link) × (reads last ≡ reads link) × (all ≡ sofar)
AreFull left reads Lacks link sofar (next ∷ states) last all =
    (piece : List ℕ) × Lacks sofar × Consumes (left link) (left next) piece × (piece ≢ []) × (reads next ≡ raised (reads link))
    × AreFull left reads Lacks next (sofar ++ piece) states last all

-- as `ComeWhile`, and each read gave something
abbrev pub ComeFull : {L : Type 0} → (L → Option (List ℕ)) → (L → ℕ) → (List ℕ → Type 0) → L → L → List ℕ → Type 0
ComeFull {L} left reads Lacks old new bytes = (states : List L) × AreFull left reads Lacks old [] states new bytes

-- a read that gave the first `count` bytes of `room`, at least one, gave something
pub some_taken : (count : ℕ) (room : List ℕ) → 0 < count → count ≤ length room → take count room ≢ []
some_taken count room some fits = λ none. absurd (omega (arith, some, ap length none, length-take-le count room fits))

-- a read that failed gave nothing
pub none_taken : (old new : Option (List ℕ)) → Keeps old new → Consumes old new []
none_taken old new kept = Consumes-kept old old new [] (Consumes-nil old) kept

module _ {L : Type 0} (left : L → Option (List ℕ)) (reads : L → ℕ) where
  -- ---- states of a link, and the reads between them

  -- the reads begin at a state that tells the same
  reads_from : (Lacks : List ℕ → Type 0) (one other last : L) (sofar before all : List ℕ) (states : List L) → left other ≡ left one → reads other ≡ reads one → before ≡ sofar
      → AreReads left reads Lacks other before states last all → AreReads left reads Lacks one sofar states last all
  reads_from Lacks one other last sofar before all [] rest count bytes (same, made, whole) = (same ∙ rest, made ∙ count, whole ∙ bytes)
  reads_from Lacks one other last sofar before all (next ∷ states) rest count bytes (piece, lacks, taken, only, made, later) = (
    piece,
    subst Lacks bytes lacks,
    subst (λ (old : Option (List ℕ)). Consumes old (left next) piece) rest taken,
    only,
    made ∙ ap raised count,
    subst (λ (xs : List ℕ). AreReads left reads Lacks next (xs ++ piece) states last all) bytes later,
  )

  -- the reads end at a state that tells the same
  reads_to : (Lacks : List ℕ → Type 0) (first last new : L) (sofar all : List ℕ) (states : List L) → left new ≡ left last → reads new ≡ reads last
      → AreReads left reads Lacks first sofar states last all → AreReads left reads Lacks first sofar states new all
  reads_to Lacks first last new sofar all [] rest count (same, made, whole) = (rest ∙ same, count ∙ made, whole)
  reads_to Lacks first last new sofar all (next ∷ states) rest count (piece, lacks, taken, only, made, later) =
      (piece, lacks, taken, only, made, reads_to Lacks next last new (sofar ++ piece) all states rest count later)

  full_then : (Lacks : List ℕ → Type 0) (first mid last : L) (sofar between all : List ℕ) (states later : List L) → AreFull left reads Lacks first sofar states mid between
      → AreReads left reads Lacks mid between later last all → AreReads left reads Lacks first sofar (states ++ later) last all
  full_then Lacks first mid last sofar between all [] later (same, made, whole) rest = reads_from Lacks first mid last sofar between all later same made whole rest
  full_then Lacks first mid last sofar between all (next ∷ states) later (piece, lacks, taken, some, made, full) rest =
      (piece, lacks, taken, λ none. absurd (some none), made, full_then Lacks next mid last (sofar ++ piece) between all states later full rest)

  full_more : (Lacks : List ℕ → Type 0) (first mid new : L) (sofar between piece all : List ℕ) (states : List L) → AreFull left reads Lacks first sofar states mid between
      → Lacks between → Consumes (left mid) (left new) piece → piece ≢ [] → all ≡ between ++ piece → reads new ≡ raised (reads mid)
      → AreFull left reads Lacks first sofar (states ++ new ∷ []) new all
  full_more Lacks first mid new sofar between piece all [] (same, made, whole) lacks taken some more one = (
    piece,
    subst Lacks whole lacks,
    subst (λ (old : Option (List ℕ)). Consumes old (left new) piece) same taken,
    some,
    one ∙ ap raised made,
    (refl, refl, more ∙ ap (λ xs. xs ++ piece) whole),
  )
  full_more Lacks first mid new sofar between piece all (next ∷ states) (part, lacked, took, full, made, later) lacks taken some more one =
      (part, lacked, took, full, made, full_more Lacks next mid new (sofar ++ part) between piece all states later lacks taken some more one)

  -- if nothing is lacking in the end, each read gave something
  full_unless : (Lacks Wants : List ℕ → Type 0) (first last : L) (sofar all : List ℕ) (states : List L) → ((xs : List ℕ) → Lacks xs → Wants xs) → ¬ (Lacks all)
      → AreReads left reads Lacks first sofar states last all → AreFull left reads Wants first sofar states last all
  full_unless Lacks Wants first last sofar all [] so enough same = same
  full_unless Lacks Wants first last sofar all (next ∷ states) so enough (piece, lacks, taken, only, made, later) =
      let ended : piece ≡ [] → all ≡ sofar =
      λ none. (subst (λ (ss : List L). AreReads left reads Lacks next (sofar ++ piece) ss last all) (only none) later).2 ∙ ap (λ xs. sofar ++ xs) none ∙ append-nil sofar in (
        piece,
        so sofar lacks,
        taken,
        λ none. enough (subst Lacks (sym (ended none)) lacks),
        made,
        full_unless Lacks Wants next last (sofar ++ piece) all states so enough later,
      )

  -- the same reads, if `front` came before
  reads_after : (Lacks Wants : List ℕ → Type 0) (front : List ℕ) (first last : L) (sofar all : List ℕ) (states : List L) → ((xs : List ℕ) → Lacks xs → Wants (front ++ xs))
      → AreReads left reads Lacks first sofar states last all → AreReads left reads Wants first (front ++ sofar) states last (front ++ all)
  reads_after Lacks Wants front first last sofar all [] so (same, made, whole) = (same, made, ap (λ xs. front ++ xs) whole)
  reads_after Lacks Wants front first last sofar all (next ∷ states) so (piece, lacks, taken, only, made, later) = (
    piece,
    so sofar lacks,
    taken,
    only,
    made,
    subst (λ (xs : List ℕ). AreReads left reads Wants next xs states last (front ++ all)) (sym (append_assoc front sofar piece))
        (reads_after Lacks Wants front next last (sofar ++ piece) all states so later),
  )

  -- ---- bytes that came by reads

  pub none_come : (Lacks : List ℕ → Type 0) (link : L) (bytes : List ℕ) → bytes ≡ [] → ComeFull left reads Lacks link link bytes
  none_come Lacks link bytes none = ([], (refl, refl, none))

  pub come_full : (Lacks : List ℕ → Type 0) (old new : L) (bytes : List ℕ) → ComeFull left reads Lacks old new bytes → ComeWhile left reads Lacks old new bytes
  come_full Lacks old new bytes (states, full) = (states ++ [], full_then Lacks old new new [] bytes bytes states [] full (refl, refl, refl))

  -- one more read, which may have given nothing
  pub come_more : (Lacks : List ℕ → Type 0) (old mid new : L) (bytes piece all : List ℕ) → ComeFull left reads Lacks old mid bytes → Lacks bytes
      → Consumes (left mid) (left new) piece → all ≡ bytes ++ piece → reads new ≡ raised (reads mid) → ComeWhile left reads Lacks old new all
  come_more Lacks old mid new bytes piece all (states, full) lacks taken more one =
      (states ++ new ∷ [], full_then Lacks old mid new [] bytes all states (new ∷ []) full (piece, lacks, taken, λ _. refl, one, (refl, refl, more)))

  -- one more read, which gave something
  pub come_on : (Lacks : List ℕ → Type 0) (old mid new : L) (bytes piece all : List ℕ) → ComeFull left reads Lacks old mid bytes → Lacks bytes
      → Consumes (left mid) (left new) piece → piece ≢ [] → all ≡ bytes ++ piece → reads new ≡ raised (reads mid) → ComeFull left reads Lacks old new all
  come_on Lacks old mid new bytes piece all (states, full) lacks taken some more one =
      (states ++ new ∷ [], full_more Lacks old mid new [] bytes piece all states full lacks taken some more one)

  pub come_so : (Lacks Wants : List ℕ → Type 0) (old new : L) (bytes : List ℕ) → ((xs : List ℕ) → Lacks xs → Wants xs) → ComeWhile left reads Lacks old new bytes
      → ComeWhile left reads Wants old new bytes
  come_so Lacks Wants old new bytes so (states, read) = (states, reads_after Lacks Wants [] old new [] bytes states so read)

  -- `front` came, and lacks nothing; then `back` came
  pub come_then : (Lacks Misses Wants : List ℕ → Type 0) (old mid new : L) (front back : List ℕ) → ((xs : List ℕ) → Lacks xs → Wants xs)
      → ((xs : List ℕ) → Misses xs → Wants (front ++ xs)) → ¬ (Lacks front) → ComeWhile left reads Lacks old mid front → ComeWhile left reads Misses mid new back
      → ComeWhile left reads Wants old new (front ++ back)
  come_then Lacks Misses Wants old mid new front back so then enough (states, read) (later, more) =
      let full = full_unless Lacks Wants old mid [] front states so enough read in
      let rest : AreReads left reads Wants mid front later new (front ++ back) =
      subst (λ (xs : List ℕ). AreReads left reads Wants mid xs later new (front ++ back)) (append-nil front) (reads_after Misses Wants front mid new [] back later then more) in
      (states ++ later, full_then Wants old mid new [] front (front ++ back) states later full rest)

  -- after `bytes` came `piece`, or nothing
  pub reads_more : (Lacks : List ℕ → Type 0) (old mid new : L) (bytes piece : List ℕ) → ComeFull left reads Lacks old mid bytes → Lacks bytes
      → Consumes (left mid) (left new) piece → reads new ≡ raised (reads mid) → ReadsWhile left reads Lacks old new
  reads_more Lacks old mid new bytes piece came lacks taken one = (bytes ++ piece, come_more Lacks old mid new bytes piece (bytes ++ piece) came lacks taken refl one)

  -- what was done after the last read changed neither what is left nor the count
  pub reads_kept : (Lacks : List ℕ → Type 0) (old mid new : L) → ReadsWhile left reads Lacks old mid → left new ≡ left mid → reads new ≡ reads mid
      → ReadsWhile left reads Lacks old new
  reads_kept Lacks old mid new (bytes, (states, read)) rest count = (bytes, (states, reads_to Lacks old mid new [] bytes states rest count read))
