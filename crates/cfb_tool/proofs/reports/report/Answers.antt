use Rattle.std.proofs.Common.{arith, refl}
use Rattle.cfb_tool.proofs.reports.report.Goals as goal

pub returns-clause-told : goal.returns-clause-told
returns-clause-told g c = λ told.
    let before = c.in_ok-flaws.ensures.same told in
    rw (← before) record {
      told = c.in_ok-told.told.items;
      facts = record {
        name = c.args.about.now.name;
        len = c.file_len.result;
        version = c.version.result;
        minor = c.args.about.now.minor;
        sectors = c.as_slice.result;
        mini_sectors = c.as_slice-2.result;
        entries = c.entry_count.result;
        objects = c.len-objects.result;
        strict = c.in_ok-strict.strict;
        flaws = c.as_slice-3.result;
      };
      names = c.in_ok-names.names;
      answers = c.in_ok-told.ensures.told told;
      streams = c.in_ok-names.ensures.streams;
      paths = c.in_ok-names.ensures.paths;
      header = record {
        name = refl;
        len = c.file_len.ensures;
        major = c.version.ensures;
        minor = refl;
        strict = c.in_ok-strict.ensures.some;
      };
      counts = record {
        sectors = rw c.as_slice.ensures.value (c.in_ok-sectors.ensures.told told);
        mini_sectors = rw c.as_slice-2.ensures.value (c.in_ok-mini_sectors.ensures.told told);
        entries = c.entry_count.ensures;
        objects = omega (arith, c.len-objects.ensures, c.in_ok-told.told.ok.0);
        reasons = rw (c.as_slice-3.ensures.value, before) (c.in_ok-flaws.ensures.told told);
      };
      lines = c.in_ok-report_of.ensures.text;
    }
