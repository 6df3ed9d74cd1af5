-- What is read of an image tells which store it is.
use Rattle.std.proofs.Common.{◌≡◌, ℕ, ◌+◌, List, length, take, Result, Ok, Err, true, false, cond, sym, ◌∙◌, ap}
use Rattle.drda_words.specs.Place.{part}
use Rattle.half_store.specs.Layout.{is_store_size, half_len}
use Rattle.half_store.specs.Header.{half_in}
use Rattle.half_store.specs.Active.{Store, Refusal, not_a_store, name_in, picked, with_half, with_name, judged, active_of}
use Rattle.half_store.specs.Opened.{Refuses}
use Rattle.half_store.specs.declared.layout.Half.{Half}
use Rattle.half_store.specs.declared.header.Header.{Header}
use Rattle.half_store.specs.declared.header.HalfState.{HalfState}
use Rattle.half_store.specs.declared.errors.OpenError.{OpenError}
use Rattle.half_store.specs.declared.errors.OpenError.TheVariants.{NotAStore, Damaged, DeviceFailed, NoMemory}

pub not_sized : (image : List ℕ) → is_store_size (length image) ≡ false → active_of image ≡ Err not_a_store
unfolding active_of
not_sized image out = ap (λ b. cond b (judged image) (Err not_a_store)) out

pub sized : (image : List ℕ) → is_store_size (length image) ≡ true → active_of image ≡ judged image
unfolding active_of
sized image within = ap (λ b. cond b (judged image) (Err not_a_store)) within

-- a refusal of the name is the image's
pub name_refused : (found : Result (List ℕ) Refusal) (half : Result (Half × Header) ℕ) (e : OpenError) → Refuses found e → Refuses (with_name found half) e
name_refused found half NotAStore is = ap (λ (f : Result (List ℕ) Refusal). with_name f half) is
name_refused found half (Damaged at) is = ap (λ (f : Result (List ℕ) Refusal). with_name f half) is
name_refused found half DeviceFailed is = tt
name_refused found half NoMemory is = tt

module _ (image : List ℕ) (size h : ℕ) (within : is_store_size (length image) ≡ true) (size_is : size ≡ length image) where
  -- the name is looked at first
  pub refused : (e : OpenError) → Refuses (name_in size (take 39 image)) e → Refuses (active_of image) e
  refused e found =
      let half = picked (half_len (length image)) (half_in (half_len (length image)) (part image 8192 8192)) (half_in (half_len (length image)) (part image (8192 + half_len (length image)) 8192)) in
      along (sym (sized image within)) e (name_refused (name_in (length image) (take 39 image)) half e (along (ap (λ n. name_in n (take 39 image)) size_is) e found))
    where
      along : {T : Type 0} {a b : Result T Refusal} → a ≡ b → (e : OpenError) → Refuses a e → Refuses b e
      along same NotAStore is = sym same ∙ is
      along same (Damaged at) is = sym same ∙ is
      along same DeviceFailed is = tt
      along same NoMemory is = tt

  -- the halves as they were read, one after the other
  pub found : (name second third : List ℕ) (a b : HalfState) → h ≡ half_len size → name_in size (take 39 image) ≡ Ok name → second ≡ image → third ≡ second
      → a ≡ half_in h (part second 8192 8192) → b ≡ half_in h (part third (8192 + h) 8192) → active_of image ≡ with_half name (picked h a b)
  found name second third a b h_is name_is same more a_is b_is =
      let whole : (k n : ℕ) → Result Store Refusal = λ k n. with_name (name_in n (take 39 image)) (picked k (half_in k (part image 8192 8192)) (half_in k (part image (8192 + k) 8192))) in
      let first_is : half_in h (part image 8192 8192) ≡ a = ap (λ (l : List ℕ). half_in h (part l 8192 8192)) (sym same) ∙ sym a_is in
      let second_is : half_in h (part image (8192 + h) 8192) ≡ b = ap (λ (l : List ℕ). half_in h (part l (8192 + h) 8192)) (sym (more ∙ same)) ∙ sym b_is in
      sized image within
      ∙ ap (λ k. whole k (length image)) (sym (h_is ∙ ap half_len size_is))
      ∙ ap (λ n. whole h n) (sym size_is)
      ∙ ap (λ (f : Result (List ℕ) Refusal). with_name f (picked h (half_in h (part image 8192 8192)) (half_in h (part image (8192 + h) 8192)))) name_is
      ∙ ap (λ s. with_half name (picked h s (half_in h (part image (8192 + h) 8192)))) first_is
      ∙ ap (λ s. with_half name (picked h a s)) second_is
