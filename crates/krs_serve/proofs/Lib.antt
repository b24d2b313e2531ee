mod SessionsLemmas
mod DaemonLemmas
mod OneDeskLemmas
