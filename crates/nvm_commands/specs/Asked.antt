-- What a device is held to by the words of `nvq certify`.
use Rattle.std.specs.Prelude.{Option, Some, None}
use Rattle.nvm_judge.specs.HeadProfile.{head_profile}
use Rattle.nvm_standard.specs.declared.profile.Profile.{Profile}
use Rattle.nvm_trace.specs.TraceView.{TraceView}
use Rattle.nvm_commands.specs.declared.certifying_words.CertifyWords.{CertifyWords}

-- what is asked for, or else what is said
abbrev pub asked_or : {A : Type 0} → Option A → A → A
asked_or (Some asked) said = asked
asked_or None said = said

-- what the words ask for, and else what the trace's head says
abbrev pub profile_asked : CertifyWords → TraceView → Profile
profile_asked words t =
    record {
      held = asked_or words.reads (head_profile t).held;
      deallocated = asked_or words.deallocated (head_profile t).deallocated;
    }
