use Rattle.std.proofs.Common.{◌≡◌, List, map, sym, ap, ap₂, subst, ◌∙◌}
use Rattle.pk_base.specs.declared.act.Entry.{Entry}
use Rattle.pk_model.specs.Apart.{Apart}
use Rattle.world_core.specs.World.{WorldPartition}
use Rattle.world_core.specs.Session.{journals_of}
use Rattle.script_text.specs.declared.report.Line.{Line}
use Rattle.serial_run.proofs.Rounds.{journals_seen}
use Rattle.serial_run.proofs.run.report_of.Goals as goal

pub returns-clause-report : goal.returns-clause-report
returns-clause-report g c =
    let journals : c.in_ok-journals.field-0 ≡ journals_of c.args.world = c.in_ok-journals.ensures ∙ journals_seen c.into_partitions.result.items ∙ ap (map (λ (q : WorldPartition). q.journal)) c.into_partitions.ensures.partitions in
    ap₂ (λ (said : List (List Line)) (js : List (List Entry)). record { n = c.args.script.now.n; last = c.args.script.now.last; threads = said; journals = js }) c.in_ok-transcripts.ensures journals

pub returns-clause-apart : goal.returns-clause-apart
returns-clause-apart g c =
    let journals : c.in_ok-journals.field-0 ≡ journals_of c.args.world = c.in_ok-journals.ensures ∙ journals_seen c.into_partitions.result.items ∙ ap (map (λ (q : WorldPartition). q.journal)) c.into_partitions.ensures.partitions in
    subst (Apart g.K.Meaning.modelling) (sym journals) c.into_partitions.ensures.apart
