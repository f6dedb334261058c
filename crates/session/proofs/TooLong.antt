-- A file is answered as its first 65537 bytes are.
use Rattle.std.proofs.Common.{◌≡◌, ℕ, ◌<◌, false, leb, List, [], ◌++◌, Option, Some, None, IfSome, Err, length, take, refl, sym, ap, subst, ◌∙◌, inl, inr, arith}
use Rattle.std.specs.Io.KnownBytes.{Appends}
use Rattle.std.specs.Option.{option_map}
use Rattle.std.proofs.lemmas.Bool.{cases_lt, lt-leb}
use Rattle.std.proofs.lemmas.List.{length-take-le, take_all}
use Rattle.tables.specs.Meaning.{Capacity}
use Rattle.session_file.specs.Answered.{file_text, reading, sections_text}
use Rattle.session_file.specs.Lines.{Ahead, broken}

module _ (cap : Capacity) (room : ℕ) where
  too_long : (file : List ℕ) → 65536 < length file → file_text cap room file ≡ reading {X = Ahead} (Err (broken 0)) (sections_text cap room)
  too_long file h =
      let e : leb (length file) 65536 ≡ false = lt-leb (length file) 65536 h in
      rw e refl

  front_answered : (file : List ℕ) → file_text cap room (take 65537 file) ≡ file_text cap room file
  front_answered file =
      elim (cases_lt 65536 (length file)) [
        | inl h ↦
            let cut : length (take 65537 file) ≡ 65537 = length-take-le 65537 file (omega arith) in
            too_long (take 65537 file) (omega arith) ∙ sym (too_long file h)
        | inr h ↦ ap (file_text cap room) (take_all 65537 file (omega arith))
      ]

  -- what was read is the front of what the reader had, and the text is put behind what the writer held
  pub served :
      (known held : Option (List ℕ)) (limit : ℕ) → held ≡ known → limit ≡ 65537 → (old file : List ℕ) → old ≡ [] →
      IfSome (option_map (take limit) held) (λ xs. file ≡ old ++ xs) → (before after : Option (List ℕ)) (text : List ℕ) →
      text ≡ file_text cap room file → Appends before after text → IfSome known (λ xs. Appends before after (file_text cap room xs))
  served None held limit h l old file o read before after text t put = tt
  served (Some xs) held limit h l old file o read before after text t put =
      let known = subst (λ k. IfSome (option_map (take limit) k) (λ ys. file ≡ old ++ ys)) h read in
      let cut = subst (λ n. file ≡ old ++ take n xs) l known in
      let front : file ≡ take 65537 xs = subst (λ zs. file ≡ zs ++ take 65537 xs) o cut in
      subst (λ ts. Appends before after ts) (t ∙ ap (file_text cap room) front ∙ front_answered xs) put
