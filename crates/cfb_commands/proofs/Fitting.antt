-- Replies of the kinds that their commands have, one after the other.
use Rattle.std.proofs.Common.{◌≡◌, ◌∙◌, ◌<◌, ◌≤◌, ◌+◌, ℕ, List, [], ◌∷◌, ◌++◌, ap, arith, sym, subst, drop, get_or, length, map, take}
use Rattle.std.proofs.lemmas.List.{drop-append-le, drop_all}
use Rattle.cfb_commands.specs.declared.command.Command.{Command}
use Rattle.cfb_commands.specs.declared.command.Reply.{Reply}
use Rattle.cfb_commands.specs.Kinds.{AreOfKinds, IsOfKind, ReplyKind, kind_of_command}
use Rattle.cfb_commands.proofs.Growing.{taken_more}

module _ {A : Type 0} where
  kinds_on : (kinds : List ReplyKind) (replies : List (Reply A)) (kind : ReplyKind) (reply : Reply A) → AreOfKinds kinds replies → IsOfKind kind reply
      → AreOfKinds (kinds ++ kind ∷ []) (replies ++ reply ∷ [])
  kinds_on [] [] kind reply all one = (one, tt)
  kinds_on [] (r ∷ rs) kind reply all one = absurd all
  kinds_on (k ∷ ks) [] kind reply all one = absurd all
  kinds_on (k ∷ ks) (r ∷ rs) kind reply all one = (all.0, kinds_on ks rs kind reply all.1 one)

  -- behind those that were there nothing stands yet
  pub none_replied : (commands : List (Command A)) (replies : List (Reply A)) → AreOfKinds (map kind_of_command (take 0 commands)) (drop (length replies) replies)
  none_replied commands replies = subst (λ (rs : List (Reply A)). AreOfKinds [] rs) (sym (drop_all (length replies) replies (omega arith))) tt

  -- one more of the commands, with its reply behind those that were there
  pub replied_more : (commands : List (Command A)) (i : ℕ) (command : Command A) (n : ℕ) (olds news : List (Reply A)) (reply : Reply A)
      → i < length commands → command ≡ get_or commands i command → news ≡ olds ++ reply ∷ [] → n ≤ length olds
      → AreOfKinds (map kind_of_command (take i commands)) (drop n olds) → IsOfKind (kind_of_command command) reply
      → AreOfKinds (map kind_of_command (take (i + 1) commands)) (drop n news)
  replied_more commands i command n olds news reply less is put longer all one =
      subst (λ (kinds : List ReplyKind). AreOfKinds kinds (drop n news)) (sym (taken_more kind_of_command commands i command less is))
      (subst (λ (rs : List (Reply A)). AreOfKinds (map kind_of_command (take i commands) ++ kind_of_command command ∷ []) rs)
      (sym (ap (drop n) put ∙ drop-append-le n olds (reply ∷ []) longer))
      (kinds_on (map kind_of_command (take i commands)) (drop n olds) (kind_of_command command) reply all one))
