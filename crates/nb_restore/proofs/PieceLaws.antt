-- Level 0 after its page 0, as far as it was copied.
use Rattle.std.proofs.Common.{◌≡◌, ℕ, ◌+◌, ◌-◌, ◌<◌, ◌≤◌, List, ◌++◌, length, take, drop, sym, ap, ◌∙◌, arith, append_assoc, length-drop, Some}
use Rattle.nb_restore.proofs.Common.{append-nil, drop-drop, length-take-le, take_all, take-add, File, bytes_of, with_bytes, ReadsBytes}

module _ (at : ℕ) (bytes before after : List ℕ) (file : File) (got : ℕ) (there : file ≡ Some bytes) (fits : at + length before ≤ length bytes) (reads : ReadsBytes file at before after got) where
  whole_is : take got after ≡ take (length before) (drop at bytes)
  whole_is = reads.bytes ∙ ap (λ (f : File). take (length before) (drop at (bytes_of f))) there

  -- as much is read as there is room for
  pub piece_short : got < length before → length after ≡ length before → ⊥
  piece_short short same =
      let cut : length (take got after) ≡ got = length-take-le got after (omega (arith, short, same)) in
      let all : length (take (length before) (drop at bytes)) ≡ length before = length-take-le (length before) (drop at bytes) (omega (arith, length-drop at bytes, fits)) in
      omega (arith, short, cut, all, ap length whole_is)

  pub piece_whole : length before ≤ got → length after ≡ length before → after ≡ take (length before) (drop at bytes)
  piece_whole all same = sym (take_all got after (omega (arith, all, same))) ∙ whole_is

module _ (size : ℕ) (bytes start : List ℕ) where
  -- the target holds this start, and level 0 from page 1 up to this byte
  abbrev pub IsCopiedTo : (at : ℕ) (file : File) → Type 0
  IsCopiedTo at file = file ≡ Some (start ++ take (at - size) (drop size bytes))

  -- nothing is copied yet
  pub copied_none : (at : ℕ) (file : File) → at ≡ size → file ≡ Some start → IsCopiedTo at file
  copied_none at file first is =
      let none : at - size ≡ 0 = omega (arith, first) in
      is ∙ ap Some (sym (append-nil start)) ∙ ap (λ k. Some (start ++ take k (drop size bytes))) (sym none)

  -- one piece more
  pub copied_next : (at count : ℕ) (here then : File) → size ≤ at → IsCopiedTo at here → then ≡ with_bytes here (take count (drop at bytes)) → IsCopiedTo (at + count) then
  copied_next at count here then behind so_far put =
      let rest : List ℕ = drop size bytes in
      let from : size + (at - size) ≡ at = omega (arith, behind) in
      let to : (at - size) + count ≡ (at + count) - size = omega (arith, behind) in
      put ∙ ap (λ (f : File). with_bytes f (take count (drop at bytes))) so_far
      ∙ ap Some (append_assoc start (take (at - size) rest) (take count (drop at bytes)))
      ∙ ap (λ (xs : List ℕ). Some (start ++ (take (at - size) rest ++ take count xs))) (ap (λ k. drop k bytes) (sym from) ∙ sym (drop-drop (at - size) size bytes))
      ∙ ap (λ (xs : List ℕ). Some (start ++ xs)) (sym (take-add (at - size) count rest))
      ∙ ap (λ k. Some (start ++ take k rest)) to

  -- all is copied
  pub copied_all : (at : ℕ) (file : File) → length bytes ≤ at → IsCopiedTo at file → file ≡ Some (start ++ drop size bytes)
  copied_all at file past so_far = so_far ∙ ap (λ (xs : List ℕ). Some (start ++ xs)) (take_all (at - size) (drop size bytes) (omega (arith, length-drop size bytes, past)))
