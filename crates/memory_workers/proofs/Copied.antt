-- Copied files hold the same.
use Rattle.std.proofs.Common.{ℕ, ◌≡◌, List, Some, None, String, Vec, Global, fold, sym, ap, subst, ◌∙◌}
use Rattle.std.specs.Prelude.{string_bytes}
use Rattle.std.proofs.lemmas.List.Folds.{fold-map}
use Rattle.base_devices.specs.Content.{Name, Content, put}
use Rattle.memory_devices.specs.Image.{named}
use Rattle.memory_devices.specs.State.{given_at}
use Rattle.memory_workers.specs.declared.meet.MeetLink.{MeetLink}
use Rattle.memory_workers.specs.Meeting.{Begins}

put_next : Content → Name × List ℕ → Content
put_next f x = put x.0 (Some x.1) f

pub same_files : (xs ys : List (String Global × Vec ℕ Global)) → named xs ≡ named ys → given_at xs ≡ given_at ys
unfolding put_next
same_files xs ys e =
    let one : Content → Name × List ℕ → Content = put_next in
    sym (fold-map one (λ (x : String Global × Vec ℕ Global). (string_bytes x.0, x.1.items)) (λ _. None) xs) ∙ ap (fold one (λ _. None)) e ∙ fold-map one (λ (x : String Global × Vec ℕ Global). (string_bytes x.0, x.1.items)) (λ _. None) ys

pub begins_as : (tree repo tree_too repo_too : Content) (m : MeetLink) → tree_too ≡ tree → repo_too ≡ repo → Begins tree_too repo_too m → Begins tree repo m
begins_as tree repo tree_too repo_too m e f b = subst (λ t. Begins t repo m) e (subst (λ r. Begins tree_too r m) f b)
