-- A piece of a file in a buffer.
use Rattle.std.proofs.Common.{◌≡◌, ℕ, ◌+◌, ◌-◌, ◌≤◌, List, ◌++◌, length, take, drop, sym, ap, ◌∙◌, arith, append_assoc, min}
use Rattle.std.proofs.lemmas.List.{take-take, take-append-le, drop-drop, length-take, length-drop, length-append, length-take-le}
use Rattle.std.proofs.Math.Seq.{take-add}

-- the front of a buffer into which so many bytes of the file were read
pub piece_read : (bytes held buf new : List ℕ) (from got len size size' part : ℕ) → held ≡ bytes → size' ≡ size → len ≡ size → len ≡ length bytes → got ≡ min (length buf) (size' - from)
    → new ≡ take got (drop from held) ++ drop got buf → part ≤ got → take part new ≡ take part (drop from bytes)
piece_read bytes held buf new from got len size size' part same kept told is amount made fits =
    let front : new ≡ take got (drop from bytes) ++ drop got buf = made ∙ ap (λ b. take got (drop from b) ++ drop got buf) same in
    let room : part ≤ length (take got (drop from bytes)) = omega (arith, length-take got (drop from bytes), length-drop from bytes) in
    ap (take part) front ∙ take-append-le part (take got (drop from bytes)) (drop got buf) room ∙ take-take part got (drop from bytes) fits

-- a text that holds a run of the file, and then its next part too
pub taken_more : (bytes start held held' next : List ℕ) (at taken part : ℕ) → held ≡ start ++ take taken (drop at bytes) → held' ≡ held ++ next → next ≡ take part (drop (at + taken) bytes)
    → held' ≡ start ++ take (taken + part) (drop at bytes)
taken_more bytes start held held' next at taken part was now is =
    let more : take taken (drop at bytes) ++ next ≡ take (taken + part) (drop at bytes) = ap (λ s. take taken (drop at bytes) ++ s) (is ∙ ap (take part) (sym (drop-drop taken at bytes))) ∙ sym (take-add taken part (drop at bytes)) in
    now ∙ ap (λ s. s ++ next) was ∙ append_assoc start (take taken (drop at bytes)) next ∙ ap (λ s. start ++ s) more

-- its length
pub longer_by : (held held' buf : List ℕ) (start taken part : ℕ) → held' ≡ held ++ take part buf → part ≤ length buf → length held ≡ start + taken → length held' ≡ start + (taken + part)
longer_by held held' buf start taken part now fits was = omega (arith, ap length now, length-append held (take part buf), length-take-le part buf fits)
