-- The command by which a restored server fetches the log.
use Rattle.std.proofs.Common.{ℕ, zero, suc, ◌<◌, ◌+◌, arith, add-one, length, take, get_or, ◌≡◌, refl, sym, ap, ap₂, ◌∙◌, List, [], ◌∷◌, ◌++◌, map, append_assoc}
use Rattle.std.proofs.lemmas.List.{append-nil, map-append}
use Rattle.std.specs.Prelude.{String, string_bytes}
use Rattle.std.specs.declared.alloc.Global.{Global}
use Rattle.base_model.specs.Text.{Text}
use Rattle.cmd_restore.specs.Targets.{escaped, escaped_byte, own_setting}
use Rattle.cmd_restore.specs.Fetching.{RecoveryType, quoted, quoted_byte, fetch_of, settings_for, recovery_by, recovery_with}
use Rattle.cmd_restore.specs.Fetching.RecoveryType.{FromArchive, Without}

quoted_append : (xs : Text) (c : ℕ) → quoted (xs ++ c ∷ []) ≡ quoted xs ++ quoted_byte c
quoted_append [] c = append-nil (quoted_byte c)
quoted_append (x ∷ xs) c = ap (λ (l : Text). quoted_byte x ++ l) (quoted_append xs c) ∙ sym (append_assoc (quoted_byte x) (quoted xs) (quoted_byte c))

take_next : (xs : Text) (n d : ℕ) → n < length xs → take (suc n) xs ≡ take n xs ++ get_or xs n d ∷ []
take_next [] n d lt = absurd (omega (arith, lt))
take_next (x ∷ xs) zero d lt = refl
take_next (x ∷ xs) (suc n) d lt = ap (λ (l : Text). x ∷ l) (take_next xs n d (omega (arith, lt)))

pub take_byte : (xs : Text) (n d : ℕ) → n < length xs → take (n + 1) xs ≡ take n xs ++ get_or xs n d ∷ []
take_byte xs n d lt = ap (λ (k : ℕ). take k xs) (add-one n) ∙ take_next xs n d lt

-- one more byte
pub quoted_more : (start now new xs ys : Text) (c : ℕ) → now ≡ start ++ quoted xs → new ≡ now ++ quoted_byte c → ys ≡ xs ++ c ∷ [] → new ≡ start ++ quoted ys
quoted_more start now new xs ys c was step is =
    step ∙ ap (λ (l : Text). l ++ quoted_byte c) was ∙ append_assoc start (quoted xs) (quoted_byte c) ∙ ap (λ (l : Text). start ++ l) (sym (quoted_append xs c) ∙ ap quoted (sym is))

escaped_append : (xs : Text) (c : ℕ) → escaped (xs ++ c ∷ []) ≡ escaped xs ++ escaped_byte c
escaped_append [] c = append-nil (escaped_byte c)
escaped_append (x ∷ xs) c = ap (λ (l : Text). escaped_byte x ++ l) (escaped_append xs c) ∙ sym (append_assoc (escaped_byte x) (escaped xs) (escaped_byte c))

-- one more byte of a value
pub escaped_more : (start now new xs ys : Text) (c : ℕ) → now ≡ start ++ escaped xs → new ≡ now ++ escaped_byte c → ys ≡ xs ++ c ∷ [] → new ≡ start ++ escaped ys
escaped_more start now new xs ys c was step is =
    step ∙ ap (λ (l : Text). l ++ escaped_byte c) was ∙ append_assoc start (escaped xs) (escaped_byte c) ∙ ap (λ (l : Text). start ++ l) (sym (escaped_append xs c) ∙ ap escaped (sym is))

-- one more setting of one's own
pub own_more : (start now new : List Text) (xs ys : List (String Global)) (x : String Global) (text : Text) → now ≡ start ++ map own_setting (map string_bytes xs) → new ≡ now ++ own_setting text ∷ [] → text ≡ string_bytes x → ys ≡ xs ++ x ∷ []
    → new ≡ start ++ map own_setting (map string_bytes ys)
own_more start now new xs ys x text was step is more =
    step ∙ ap₂ (λ (l : List Text) (t : Text). l ++ own_setting t ∷ []) was is ∙ append_assoc start (map own_setting (map string_bytes xs)) (own_setting (string_bytes x) ∷ [])
    ∙ ap (λ (l : List Text). start ++ l) (sym (ap (map own_setting) (map-append string_bytes xs (x ∷ [])) ∙ map-append own_setting (map string_bytes xs) (string_bytes x ∷ [])) ∙ ap (λ (l : List (String Global)). map own_setting (map string_bytes l)) (sym more))

pub recovery_is : (stanza : Text) (recovery : RecoveryType) (fetch : Text) (settings : List Text) → fetch ≡ fetch_of stanza recovery → settings ≡ settings_for recovery → recovery_with recovery fetch settings ≡ recovery_by stanza recovery
recovery_is stanza (FromArchive r) fetch settings is same = ap₂ (recovery_with (FromArchive r)) is same
recovery_is stanza Without fetch settings is same = refl
